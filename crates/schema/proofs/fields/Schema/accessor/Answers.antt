use Rattle.std.proofs.Common.{◌≡◌, rules}
use Rattle.schema.specs.Accessors.{read, accessor_of}
use Rattle.schema.proofs.Reaching.{own_accessor}
use Rattle.schema.proofs.fields.Schema.accessor.Goals as goal

pub returns-in-Primitive-clause-leads_to_no_other_field : goal.returns-in-Primitive-clause-leads_to_no_other_field
returns-in-Primitive-clause-leads_to_no_other_field c =
    let is : read c.ok_or.result ≡ accessor_of c.args.self.now.fields.now c.args.field = search rules in
    own_accessor c.args.self.now.fields.now c.args.field _ is
