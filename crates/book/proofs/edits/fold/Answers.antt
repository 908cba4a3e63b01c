use Rattle.std.proofs.Common.{ℕ, set, sym, ap, ◌∙◌, subst, ap₂}
use Rattle.std.proofs.lemmas.List.{get_or_default}
use Rattle.book.specs.declared.edits.Keep.TheVariants.{First, Second, Both}
use Rattle.nodes.specs.declared.slots.Mark.TheVariants.{Struck}
use Rattle.nodes.specs.declared.slots.Slot.{Slot}
use Rattle.nodes.specs.Filters.{Whole}
use Rattle.nodes.specs.Tables.{nowhere, slot, nodes, filter_at}
use Rattle.book.specs.Edits.{struck, marked, join}
use Rattle.nodes.proofs.Found.{of_root}
use Rattle.book.proofs.Edited.{mark_is, strike_only, strike_one}
use Rattle.book.proofs.Folded.{fold_side, fold_is, join_root}
use Rattle.book.proofs.edits.fold.Goals as goal
use Rattle.book.proofs.edits.fold.Goals.{in-First, in-Second}

pub strike-requires : goal.strike-requires
strike-requires g c =
    let xs = c.args.slots.now in
    strike_only xs c.args.at (mark_is xs c.args.at c.index-slots-i-2.result Struck c.requires.inside)
    (elim c.match-keeps.branch [
      | in-First w ↦ subst (λ (u : ℕ × ℕ). Whole xs u.1) (sym w.kept-is) c.requires.right
      | in-Second w ↦ subst (λ (u : ℕ × ℕ). Whole xs u.1) (sym w.kept-is) c.requires.left
    ])

pub returns : goal.returns
returns g c =
    let xs = c.args.slots.now in
    let n = c.args.at in
    let e = mark_is xs n c.index-slots-i-2.result Struck c.requires.inside in
    elim c.match-keeps.branch [
      | in-First w ↦
          let d = ap (λ (u : ℕ × ℕ). u.1) w.kept-is in
          fold_is c.args.folds c.args.connective xs n c.args.l c.args.r First
          (fold_side c.args.folds c.args.connective xs c.args.l c.args.r c.index-slots-l.result c.index-slots-r.result First c.requires.left.inside c.requires.right.inside w.in-First.ensures.goes_by_the_constants)
          (ap (λ (u : ℕ × ℕ). u.0) w.kept-is ∙ sym (of_root (nodes xs) c.args.l))
          (strike_one xs n e (subst (Whole xs) (sym d) c.requires.right) c.strike.ensures.strikes_each_node ∙ ap (λ k. struck (filter_at xs k) (marked n Struck xs)) d)
      | in-Second w ↦
          let d = ap (λ (u : ℕ × ℕ). u.1) w.kept-is in
          fold_is c.args.folds c.args.connective xs n c.args.l c.args.r Second
          (fold_side c.args.folds c.args.connective xs c.args.l c.args.r c.index-slots-l.result c.index-slots-r.result Second c.requires.left.inside c.requires.right.inside w.in-Second.ensures.goes_by_the_constants)
          (ap (λ (u : ℕ × ℕ). u.0) w.kept-is ∙ sym (of_root (nodes xs) c.args.r))
          (strike_one xs n e (subst (Whole xs) (sym d) c.requires.left) c.strike.ensures.strikes_each_node ∙ ap (λ k. struck (filter_at xs k) (marked n Struck xs)) d)
    ]

pub returns-in-Both : goal.returns-in-Both
returns-in-Both g c =
    let xs = c.args.slots.now in
    let n = c.args.at in
    let k = fold_side c.args.folds c.args.connective xs c.args.l c.args.r c.index-slots-l.result c.index-slots-r.result Both c.requires.left.inside c.requires.right.inside c.in-Both.ensures.goes_by_the_constants in
    fold_is c.args.folds c.args.connective xs n c.args.l c.args.r Both k (sym (join_root c.args.connective n (filter_at xs c.args.l) (filter_at xs c.args.r)))
    (ap₂ (λ x (s : Slot _). set xs n (slot x s.mark)) (c.joining.ensures.is_the_join ∙ sym (ap₂ (join c.args.connective) (of_root (nodes xs) c.args.l) (of_root (nodes xs) c.args.r))) (get_or_default xs n c.index-slots-i.result nowhere c.requires.inside))
