use Rattle.schema.proofs.Ends.{name_step}
use Rattle.schema.proofs.fields.Schema.name_of.Goals as goal

pub returns : goal.returns
returns c =
    record {
      is_the_full_name = rw (c.parent_of.ensures.is_the_earlier_parent, c.of.ensures.are_the_bytes_there, c.field_at.ensures.is_the_field_there) (name_step c.args.self.now.fields.now c.args.self.now.text.now c.args.field);
    }
