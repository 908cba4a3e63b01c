use Rattle.std.proofs.Common.{refl}
use Rattle.schema.proofs.Ends.{named_as}
use Rattle.schema.proofs.fields.Schema.is_named.Goals as goal

pub returns : goal.returns
returns c =
    record { compares_the_full_name = named_as c.args.case _ _ _ c.args.name.now c.is_same.result c.is_same.ensures.compares_whole_names c.name_of.ensures.is_the_full_name refl }
