use Rattle.schema.specs.declared.names.Case.TheVariants.{Sensitive}
use Rattle.schema.proofs.Ends.{named_as}
use Rattle.schema.proofs.policy.FullNamesTest.passes.Goals as goal

pub returns : goal.returns
returns c =
    record { tells = named_as Sensitive _ _ _ _ c.is_same.result c.is_same.ensures.compares_whole_names c.name_of.ensures.is_the_full_name c.name_of-2.ensures.is_the_full_name }
