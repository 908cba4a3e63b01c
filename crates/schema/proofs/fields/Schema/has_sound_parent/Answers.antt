use Rattle.std.proofs.Common.{sym, ap, ◌∙◌, arith}
use Rattle.std.proofs.lemmas.Bool.{le-ltb}
use Rattle.schema.specs.declared.fields.Field.{Field}
use Rattle.schema.proofs.Decisions.{never}
use Rattle.schema.proofs.fields.Schema.has_sound_parent.Goals as goal

pub returns-else-parent-field : goal.returns-else-parent-field
returns-else-parent-field c =
    let parent = ap (λ (f : Field). f.parent) (sym c.field_at.ensures.is_the_field_there) ∙ c.in-Some.is in
    rw (le-ltb c.in-Some.parent c.args.field c.if-parent-field.false) (record { decides_the_parent = never (λ sound. omega (arith, c.if-parent-field.false, (sound c.in-Some.parent parent).0)) })
