use Rattle.std.proofs.Common.{refl, ap, arith}
use Rattle.schema.specs.declared.fields.Field.{Field}
use Rattle.schema.proofs.Decisions.{never, refuted_not, granted_not}
use Rattle.schema.proofs.Listing.{number_new, name_new}
use Rattle.schema.proofs.check.Seen.takes_next.Goals as goal
use Rattle.schema.proofs.check.Seen.takes_next.Goals.{then-ne-via-then-ne, then-ne-via-else-ne+then-ne-2}

pub returns-then-ne-clause-decides_that_both_are_new : goal.returns-then-ne-clause-decides_that_both_are_new
returns-then-ne-clause-decides_that_both_are_new c =
    let s = c.args.self.now in
    let number = number_new s.schema.fields.now s.count s.numbers c.offer.result _ s.lists_numbers (omega arith) (ap (λ (f : Field). f.number) c.field_at-number.ensures.is_the_field_there) c.offer.ensures.keeps_what_equals_none_held in
    never
    (λ new.
    elim c.then-ne.branch [
      | then-ne-via-then-ne w ↦ refuted_not _ c.ne.result number c.ne.ensures w.if-ne.true new.0
      | then-ne-via-else-ne+then-ne-2 w ↦
          refuted_not _ w.ne-else-ne.result (name_new s.schema.fields.now s.schema.text.now s.count s.names w.offer-else-ne.result s.lists_names (omega arith) w.offer-else-ne.ensures.keeps_what_equals_none_held) w.ne-else-ne.ensures w.if-ne-2.true new.1
    ])

pub returns-clause-decides_that_both_are_new : goal.returns-clause-decides_that_both_are_new
returns-clause-decides_that_both_are_new c =
    let s = c.args.self.now in
    let number = number_new s.schema.fields.now s.count s.numbers c.offer.result _ s.lists_numbers (omega arith) (ap (λ (f : Field). f.number) c.field_at-number.ensures.is_the_field_there) c.offer.ensures.keeps_what_equals_none_held in
    let name = name_new s.schema.fields.now s.schema.text.now s.count s.names c.offer-else-ne.result s.lists_names (omega arith) c.offer-else-ne.ensures.keeps_what_equals_none_held in
    (λ _. (granted_not _ c.ne.result number c.ne.ensures c.if-ne.false, granted_not _ c.ne-else-ne.result name c.ne-else-ne.ensures c.if-ne-2.false), λ _. refl)
