use Rattle.std.proofs.Common.{◌+◌, below_more, sym, ap, ◌∙◌, arith}
use Rattle.schema.specs.Rules.{Keeps, Sound}
use Rattle.schema.proofs.Decisions.{refuted, kept_form, kept, kept_new}
use Rattle.schema.proofs.Ends.{name_step}
use Rattle.schema.proofs.Reaching.{reachable}
use Rattle.schema.proofs.Walks.{line_step}
use Rattle.schema.proofs.fields.Schema.check.Goals as goal
use Rattle.schema.proofs.fields.Schema.check.Goals.{then-not-is_formed-via-then-not-is_formed, then-not-is_formed-via-else-not-is_formed+then-not-takes_next}

pub loop-place-preserved : goal.loop-place-preserved
loop-place-preserved c =
    let so_far = c.loop-place.invariant in
    let said = c.takes_next.ensures in
    let taken = c.if-not-takes_next.false in (
      said.stays_of_the_schema ∙ so_far.0,
      said.counts_it taken ∙ ap (λ k. k + 1) so_far.1,
      below_more _ _ so_far.2
          (kept c.args.self.now c.loop-place.before.schema c.loop-place.place c.loop-place.before.count so_far.0 so_far.1 (c.is_formed.ensures.decides_the_form.0 c.if-not-is_formed.false) (said.decides_that_both_are_new.0 taken)),
    )

pub returns-then-not-is_formed-clause-names_the_first_field_at_fault : goal.returns-then-not-is_formed-clause-names_the_first_field_at_fault
returns-then-not-is_formed-clause-names_the_first_field_at_fault c =
    let so_far = c.loop-place.invariant in
    let broken : Keeps c.args.self.now.fields.now c.args.self.now.text.now c.loop-place.place → ⊥ =
    λ keeps.
    elim c.then-not-is_formed.branch [
      | then-not-is_formed-via-then-not-is_formed w ↦ refuted _ c.is_formed.ensures.decides_the_form w.if-not-is_formed.true (kept_form _ _ _ keeps)
      | then-not-is_formed-via-else-not-is_formed+then-not-takes_next w ↦
          refuted _ w.takes_next.ensures.decides_that_both_are_new w.if-not-takes_next.true (kept_new c.args.self.now c.loop-place.before.schema c.loop-place.place c.loop-place.before.count so_far.0 so_far.1 keeps)
    ] in
    rw c.at.ensures.is_at_the_place (c.at.ensures.is_for_the_reason, (c.loop-place-test.true, broken, so_far.2))

pub returns-then-not-is_formed-clause-lines_go_by_parents : goal.returns-then-not-is_formed-clause-lines_go_by_parents
returns-then-not-is_formed-clause-lines_go_by_parents c = line_step _

pub returns-then-not-is_formed-clause-full_names_go_by_parents : goal.returns-then-not-is_formed-clause-full_names_go_by_parents
returns-then-not-is_formed-clause-full_names_go_by_parents c = λ i. sym (name_step _ _ i)

pub returns-clause-lines_go_by_parents : goal.returns-clause-lines_go_by_parents
returns-clause-lines_go_by_parents c = line_step _

pub returns-clause-full_names_go_by_parents : goal.returns-clause-full_names_go_by_parents
returns-clause-full_names_go_by_parents c = λ i. sym (name_step _ _ i)

pub returns-clause-granted_primitive_fields_have_accessors : goal.returns-clause-granted_primitive_fields_have_accessors
returns-clause-granted_primitive_fields_have_accessors c =
    let sound : Sound c.args.self.now.fields.now c.args.self.now.text.now = λ i h. c.loop-place.invariant.2 i (omega (arith, c.loop-place-test.false)) in
    λ _. reachable _ _ sound
