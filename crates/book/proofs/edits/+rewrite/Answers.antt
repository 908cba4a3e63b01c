use Rattle.std.proofs.Common.{◌≡◌, ℕ, Bool, List, sym, refl, ap, ◌∙◌, arith}
use Rattle.filters.specs.Placed.{Placed, not_node_at, root, rewritten_placed}
use Rattle.nodes.specs.declared.slots.Mark.TheVariants.{Struck}
use Rattle.nodes.specs.declared.slots.Slot.{Slot}
use Rattle.nodes.specs.Conditions.{opposite}
use Rattle.nodes.specs.Tables.{Held, form, nodes, filter_at}
use Rattle.book.specs.declared.edits.Connective.TheVariants as C
use Rattle.book.specs.Edits.{join, join_at, rewriting}
use Rattle.nodes.proofs.Found.{at_other, one_not}
use Rattle.book.proofs.Edited.{read_node, read_join, two_join, at_join, mark_is, Leaf, constant_leaf, condition_leaf, leaf}
use Rattle.book.proofs.Folded.{rewrite_second, fold_first, fold_second, fold_inside, fold_answer, fold_slots, joined_root, joined_slots, not_whole, not_answer, not_slots}
use Rattle.book.proofs.edits.+rewrite.Goals as goal
use Rattle.book.proofs.edits.+rewrite.Goals.{in-And, in-Or}

-- what the contract says where the filter is p
abbrev Says : {T : Type 0} → Bool → List (Slot T) → ℕ → List (Slot T) → ℕ → Type 0
Says folds xs n ys r = record { answers_the_root : r ≡ root (rewritten_placed folds opposite (filter_at xs n)); rewrites_in_place : ys ≡ rewriting folds (filter_at xs n) xs }

module _ {T : Type 0} (folds : Bool) (xs : List (Slot T)) (n : ℕ) where
  says : (p : Placed (Held T)) {ys : List (Slot T)} {r : ℕ} → filter_at xs n ≡ p → r ≡ root (rewritten_placed folds opposite p) → ys ≡ rewriting folds p xs → Says folds xs n ys r
  says p e a s = record { answers_the_root = a ∙ sym (ap (λ q. root (rewritten_placed folds opposite q)) e); rewrites_in_place = s ∙ sym (ap (λ q. rewriting folds q xs) e) }

  leaf_says : Leaf xs n → Says folds xs n xs n
  leaf_says (constant_leaf b e) = says _ e refl refl
  leaf_says (condition_leaf k e) = says _ e refl refl

pub rewrite-left-requires : goal.rewrite-left-requires
rewrite-left-requires g t c κs within =
    let xs = c.args.slots.now in
    let n = c.args.at in
    let u = c.match-slots-i.connective in
    let e : nodes xs n ≡ form (join u.0 u.1 u.2) = elim c.match-slots-i.branch [ in-And w ↦ read_join xs n _ C.And _ _ u c.requires.inside w.in-And.is w.connective-is | in-Or w ↦ read_join xs n _ C.Or _ _ u c.requires.inside w.in-Or.is w.connective-is ] in
    let two = two_join xs n u.0 u.1 u.2 e c.requires in
    (omega (arith, two.left, c.decreases), (within, two.first))

pub rewrite-right-requires : goal.rewrite-right-requires
rewrite-right-requires g t c κs within =
    let xs = c.args.slots.now in
    let n = c.args.at in
    let u = c.match-slots-i.connective in
    let e : nodes xs n ≡ form (join u.0 u.1 u.2) = elim c.match-slots-i.branch [ in-And w ↦ read_join xs n _ C.And _ _ u c.requires.inside w.in-And.is w.connective-is | in-Or w ↦ read_join xs n _ C.Or _ _ u c.requires.inside w.in-Or.is w.connective-is ] in
    let two = two_join xs n u.0 u.1 u.2 e c.requires in
    (omega (arith, two.right, c.decreases), (within, rewrite_second c.args.folds xs n u.1 u.2 two c.rewrite-left.new.slots c.rewrite-left.result c.rewrite-left.ensures.answers_the_root c.rewrite-left.ensures.rewrites_in_place))

pub fold-requires : goal.fold-requires
fold-requires g t c =
    let xs = c.args.slots.now in
    let n = c.args.at in
    let u = c.match-slots-i.connective in
    let e : nodes xs n ≡ form (join u.0 u.1 u.2) = elim c.match-slots-i.branch [ in-And w ↦ read_join xs n _ C.And _ _ u c.requires.inside w.in-And.is w.connective-is | in-Or w ↦ read_join xs n _ C.Or _ _ u c.requires.inside w.in-Or.is w.connective-is ] in
    let two = two_join xs n u.0 u.1 u.2 e c.requires in
    let a = c.rewrite-left.ensures in
    let b = c.rewrite-right.ensures in
    record {
      inside = fold_inside c.args.folds xs n u.1 u.2 two c.rewrite-left.new.slots c.rewrite-left.result a.answers_the_root a.rewrites_in_place c.rewrite-right.new.slots c.rewrite-right.result b.answers_the_root b.rewrites_in_place c.requires.inside;
      left = fold_first c.args.folds xs n u.1 u.2 two c.rewrite-left.new.slots c.rewrite-left.result a.answers_the_root a.rewrites_in_place c.rewrite-right.new.slots c.rewrite-right.result b.answers_the_root b.rewrites_in_place;
      right = fold_second c.args.folds xs n u.1 u.2 two c.rewrite-left.new.slots c.rewrite-left.result a.answers_the_root a.rewrites_in_place c.rewrite-right.new.slots c.rewrite-right.result b.answers_the_root b.rewrites_in_place;
    }

pub returns : goal.returns
returns g t c =
    let xs = c.args.slots.now in
    let n = c.args.at in
    let f = c.args.folds in
    let u = c.match-slots-i.connective in
    let e : nodes xs n ≡ form (join u.0 u.1 u.2) = elim c.match-slots-i.branch [ in-And w ↦ read_join xs n _ C.And _ _ u c.requires.inside w.in-And.is w.connective-is | in-Or w ↦ read_join xs n _ C.Or _ _ u c.requires.inside w.in-Or.is w.connective-is ] in
    let two = two_join xs n u.0 u.1 u.2 e c.requires in
    let a = c.rewrite-left.ensures in
    let b = c.rewrite-right.ensures in
    let p = filter_at xs u.1 in
    let q = filter_at xs u.2 in
    says f xs n (join_at u.0 n p q) (at_join xs n u.0 u.1 u.2 e two)
    (fold_answer f xs n u.1 u.2 two c.rewrite-left.new.slots c.rewrite-left.result a.answers_the_root a.rewrites_in_place c.rewrite-right.new.slots c.rewrite-right.result b.answers_the_root b.rewrites_in_place u.0 c.fold.result c.fold.ensures.answers_the_root ∙ joined_root f u.0 n p q)
    (fold_slots f xs n u.1 u.2 two c.rewrite-left.new.slots c.rewrite-left.result a.answers_the_root a.rewrites_in_place c.rewrite-right.new.slots c.rewrite-right.result b.answers_the_root b.rewrites_in_place u.0 c.fold.new.slots c.fold.ensures.folds_in_place ∙ joined_slots f u.0 n p q xs)

pub rewrite-y-requires : goal.rewrite-y-requires
rewrite-y-requires g t c κs within =
    let one = one_not c.args.slots.now c.args.at c.in-Not.x (read_node c.args.slots.now c.args.at _ _ c.requires.inside c.in-Not.is) c.requires in
    (omega (arith, one.under, c.decreases), (within, one.whole))

pub flip-requires : goal.flip-requires
flip-requires g t c =
    let xs = c.args.slots.now in
    let n = c.args.at in
    let one = one_not xs n c.in-Not.x (read_node xs n _ _ c.requires.inside c.in-Not.is) c.requires in
    not_whole c.args.folds xs n c.in-Not.x one.whole c.rewrite-y.new.slots c.rewrite-y.result c.rewrite-y.ensures.answers_the_root c.rewrite-y.ensures.rewrites_in_place _ (mark_is c.rewrite-y.new.slots n c.index-slots-i.result Struck (omega (arith, c.rewrite-y.auto.slots, c.requires.inside)))

pub returns-in-Not : goal.returns-in-Not
returns-in-Not g t c =
    let xs = c.args.slots.now in
    let n = c.args.at in
    let d = read_node xs n _ _ c.requires.inside c.in-Not.is in
    let one = one_not xs n c.in-Not.x d c.requires in
    let ez = mark_is c.rewrite-y.new.slots n c.index-slots-i.result Struck (omega (arith, c.rewrite-y.auto.slots, c.requires.inside)) in
    says c.args.folds xs n (not_node_at n (filter_at xs c.in-Not.x)) (at_other (nodes xs) n c.in-Not.x d one.under)
    (not_answer c.args.folds xs n c.in-Not.x one.whole c.rewrite-y.new.slots c.rewrite-y.result c.rewrite-y.ensures.answers_the_root c.rewrite-y.ensures.rewrites_in_place _ ez c.flip.result c.flip.ensures.answers_the_root)
    (not_slots c.args.folds xs n c.in-Not.x one.whole c.rewrite-y.new.slots c.rewrite-y.result c.rewrite-y.ensures.answers_the_root c.rewrite-y.ensures.rewrites_in_place _ ez c.flip.new.slots c.flip.ensures.negates_in_place)

pub returns-in_default : goal.returns-in_default
returns-in_default g t c = leaf_says c.args.folds c.args.slots.now c.args.at (leaf c.args.slots.now c.args.at _ (read_node c.args.slots.now c.args.at _ _ c.requires.inside refl) c.in_default.not-And c.in_default.not-Or c.in_default.not-Not)
