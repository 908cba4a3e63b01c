use Rattle.std.proofs.Common.{length, sym, ap, ◌∙◌}
use Rattle.std.proofs.lemmas.Bool.{both_ways, le-ltb}
use Rattle.values.specs.Contents.{inside}
use Rattle.schema.specs.declared.fields.Field.{Field}
use Rattle.schema.proofs.Decisions.{formed}
use Rattle.schema.proofs.fields.Schema.is_formed.Goals as goal
use Rattle.schema.proofs.fields.Schema.is_formed.Goals.{then-field-lt-MAX_FIELDS, else-field-lt-MAX_FIELDS, then-has_sound_parent, else-has_sound_parent}

pub returns-then-lies_inside : goal.returns-then-lies_inside
returns-then-lies_inside c =
    elim c.if-has_sound_parent.branch [
      | then-has_sound_parent w ↦
          elim c.if-field-lt-MAX_FIELDS.branch [
            | then-field-lt-MAX_FIELDS v ↦
                let name = ap (λ (f : Field). inside (length c.args.self.now.text.now) f.name) w.field_at.ensures.is_the_field_there in
                record {
                  decides_the_form =
                      formed _ _ _ _ v.if-field-lt-MAX_FIELDS.true
                      (v.has_sound_parent.ensures.decides_the_parent.0 (sym v.value-is ∙ w.if-has_sound_parent.true))
                      (sym name ∙ sym w.lies_inside.ensures.ends_within ∙ sym w.value-is ∙ c.if-lies_inside.true)
                      c.is_shallow.ensures.decides_the_depth;
                }
            | else-field-lt-MAX_FIELDS v ↦ absurd (both_ways _ (v.value-is ∙ le-ltb _ _ v.if-field-lt-MAX_FIELDS.false) w.if-has_sound_parent.true)
          ]
      | else-has_sound_parent w ↦ absurd (both_ways _ (w.value-is ∙ w.if-has_sound_parent.false) c.if-lies_inside.true)
    ]
