use Rattle.std.proofs.Common.{◌≡◌, ℕ, ◌<◌, true, false, List, length, get_or, set, sym, refl, ap, ◌∙◌, arith}
use Rattle.std.proofs.lemmas.List.{get_or_default}
use Rattle.filters.specs.Placed.{Placed, constant_at, condition_at, and_node_at, or_node_at, not_node_at, root, negated_placed}
use Rattle.nodes.specs.declared.slots.Mark.TheVariants.{Struck}
use Rattle.nodes.specs.declared.slots.Node.{Node}
use Rattle.nodes.specs.declared.slots.Node.TheVariants.{And, Or, Unary, Binary, Set}
use Rattle.nodes.specs.declared.slots.Slot.{Slot}
use Rattle.nodes.specs.Conditions.{unary, binary, among, opposite}
use Rattle.nodes.specs.Tables.{Held, nowhere, at, slot, nodes, filter_at}
use Rattle.book.specs.Edits.{negation}
use Rattle.nodes.proofs.Found.{of_root, at_always, at_test, at_both, at_either, at_other, two_and, two_or, one_not}
use Rattle.book.proofs.Edited.{read_node, mark_is, negate_second, negate_stays, negate_two}
use Rattle.book.proofs.edits.+flip.Goals as goal
use Rattle.book.proofs.edits.+flip.Goals.{in-AlwaysTrue, in-AlwaysFalse, in-And, in-Or, in-Unary, in-Binary, in-Set}

-- what the contract says where the filter is p
abbrev Says : {T : Type 0} → List (Slot T) → ℕ → List (Slot T) → ℕ → Type 0
Says xs n ys r = record { answers_the_root : r ≡ root (negated_placed opposite (filter_at xs n)); negates_in_place : ys ≡ negation (filter_at xs n) xs }

module _ {T : Type 0} (xs : List (Slot T)) (n : ℕ) where
  says : (p : Placed (Held T)) {ys : List (Slot T)} {r : ℕ} → filter_at xs n ≡ p → r ≡ root (negated_placed opposite p) → ys ≡ negation p xs → Says xs n ys r
  says p e a s = record { answers_the_root = a ∙ sym (ap (λ q. root (negated_placed opposite q)) e); negates_in_place = s ∙ sym (ap (λ q. negation q xs) e) }

  -- a node written into a table that kept its mark
  written : {zs ys : List (Slot T)} (d : Slot T) {v m : Node T} → n < length xs → length ys ≡ length xs → at zs n ≡ at xs n → ys ≡ zs → m ≡ v → set ys n (slot m (get_or ys n d).mark) ≡ set zs n (slot v (at xs n).mark)
  written {zs} {ys} d {v} {m} h l k e f =
      let u = get_or_default ys n d nowhere (omega arith) ∙ ap (λ us. at us n) e ∙ k in
      ap (λ (s : Slot T). set ys n (slot m s.mark)) u ∙ ap (λ us. set us n (slot m (at xs n).mark)) e ∙ ap (λ x. set zs n (slot x (at xs n).mark)) f

pub flip-requires : goal.flip-requires
flip-requires g t c κs within =
    let two = two_and c.args.slots.now c.args.at c.in-And.l c.in-And.r (read_node c.args.slots.now c.args.at _ _ c.requires.inside c.in-And.is) c.requires in
    (omega (arith, two.left, c.decreases), (within, two.first))

pub flip-requires-in-And : goal.flip-requires-in-And
flip-requires-in-And g t c κs within =
    let two = two_and c.args.slots.now c.args.at c.in-And.l c.in-And.r (read_node c.args.slots.now c.args.at _ _ c.requires.inside c.in-And.is) c.requires in
    (omega (arith, two.right, c.decreases), (within, negate_second two c.flip.ensures.answers_the_root c.flip.ensures.negates_in_place))

pub flip-requires-in-Or : goal.flip-requires-in-Or
flip-requires-in-Or g t c κs within =
    let two = two_or c.args.slots.now c.args.at c.in-Or.l c.in-Or.r (read_node c.args.slots.now c.args.at _ _ c.requires.inside c.in-Or.is) c.requires in
    (omega (arith, two.left, c.decreases), (within, two.first))

pub flip-requires-in-Or-2 : goal.flip-requires-in-Or-2
flip-requires-in-Or-2 g t c κs within =
    let two = two_or c.args.slots.now c.args.at c.in-Or.l c.in-Or.r (read_node c.args.slots.now c.args.at _ _ c.requires.inside c.in-Or.is) c.requires in
    (omega (arith, two.right, c.decreases), (within, negate_second two c.flip-in-Or.ensures.answers_the_root c.flip-in-Or.ensures.negates_in_place))

pub returns-in-Not : goal.returns-in-Not
returns-in-Not g t c =
    let xs = c.args.slots.now in
    let n = c.args.at in
    let d = read_node c.args.slots.now c.args.at _ _ c.requires.inside c.in-Not.is in
    let one = one_not xs n c.in-Not.x d c.requires in
    says xs n (not_node_at n (filter_at xs c.in-Not.x)) (at_other (nodes xs) n c.in-Not.x d one.under) (sym (of_root (nodes xs) c.in-Not.x)) (mark_is xs n _ Struck c.requires.inside)

pub returns : goal.returns
returns g t c =
    let xs = c.args.slots.now in
    let n = c.args.at in
    let h = c.requires.inside in
    let l = c.match-slots-i.auto.slots in
    elim c.match-slots-i.branch [
      | in-AlwaysTrue w ↦ says xs n (constant_at n true) (at_always (nodes xs) n true (read_node xs n _ _ h w.in-AlwaysTrue.is)) refl (written xs n _ h l refl w.slots-is w.slots2-is)
      | in-AlwaysFalse w ↦ says xs n (constant_at n false) (at_always (nodes xs) n false (read_node xs n _ _ h w.in-AlwaysFalse.is)) refl (written xs n _ h l refl w.slots-is w.slots2-is)
      | in-And w ↦
          let d = read_node xs n _ _ h w.in-And.is in
          let two = two_and xs n w.in-And.l w.in-And.r d c.requires in
          let a = w.flip.ensures in let b = w.flip-in-And.ensures in
          says xs n (and_node_at n (filter_at xs w.in-And.l) (filter_at xs w.in-And.r)) (at_both (nodes xs) n w.in-And.l w.in-And.r d two.left two.right) refl
          (written xs n _ h l (negate_stays two a.answers_the_root a.negates_in_place b.answers_the_root b.negates_in_place) w.slots-is w.slots2-is ∙ negate_two two a.answers_the_root a.negates_in_place b.answers_the_root b.negates_in_place Or)
      | in-Or w ↦
          let d = read_node xs n _ _ h w.in-Or.is in
          let two = two_or xs n w.in-Or.l w.in-Or.r d c.requires in
          let a = w.flip-in-Or.ensures in let b = w.flip-in-Or-2.ensures in
          says xs n (or_node_at n (filter_at xs w.in-Or.l) (filter_at xs w.in-Or.r)) (at_either (nodes xs) n w.in-Or.l w.in-Or.r d two.left two.right) refl
          (written xs n _ h l (negate_stays two a.answers_the_root a.negates_in_place b.answers_the_root b.negates_in_place) w.slots-is w.slots2-is ∙ negate_two two a.answers_the_root a.negates_in_place b.answers_the_root b.negates_in_place And)
      | in-Unary w ↦ says xs n (condition_at n (unary w.in-Unary.op w.in-Unary.term)) (at_test (nodes xs) n (unary w.in-Unary.op w.in-Unary.term) (read_node xs n _ _ h w.in-Unary.is)) refl (written xs n _ h l refl w.slots-is (w.slots2-is ∙ ap (λ o. Unary o w.in-Unary.term) w.negate.ensures.says_the_opposite))
      | in-Binary w ↦ says xs n (condition_at n (binary w.in-Binary.op w.in-Binary.term w.in-Binary.literal)) (at_test (nodes xs) n (binary w.in-Binary.op w.in-Binary.term w.in-Binary.literal) (read_node xs n _ _ h w.in-Binary.is)) refl (written xs n _ h l refl w.slots-is (w.slots2-is ∙ ap (λ o. Binary o w.in-Binary.term w.in-Binary.literal) w.negate-in-Binary.ensures.says_the_opposite))
      | in-Set w ↦ says xs n (condition_at n (among w.in-Set.op w.in-Set.term w.in-Set.literals)) (at_test (nodes xs) n (among w.in-Set.op w.in-Set.term w.in-Set.literals) (read_node xs n _ _ h w.in-Set.is)) refl (written xs n _ h l refl w.slots-is (w.slots2-is ∙ ap (λ o. Set o w.in-Set.term w.in-Set.literals) w.negate-in-Set.ensures.says_the_opposite))
    ]
