-- Folding and rewriting, as the code goes.
use Rattle.std.proofs.Common.{◌≡◌, ℕ, ◌<◌, Bool, List, length, get_or, set, sym, refl, ap, ◌∙◌, subst, ap₂, arith}
use Rattle.std.proofs.lemmas.List.{get_or_default}
use Rattle.filters.specs.Placed.{Placed, root, In, Sound, Holds, negated_placed, rewritten_placed}
use Rattle.filters.proofs.Placed.{root_in, frame, rewritten_sound}
use Rattle.nodes.specs.declared.slots.Mark.TheVariants.{Struck}
use Rattle.book.specs.declared.edits.Keep.{Keep}
use Rattle.nodes.specs.declared.slots.Slot.{Slot}
use Rattle.nodes.specs.Conditions.{opposite}
use Rattle.nodes.specs.Tables.{Held, nowhere, slot, at, form, nodes, filter_at}
use Rattle.nodes.specs.Filters.{Whole, constant_of, head}
use Rattle.book.specs.declared.edits.Connective.{Connective}
use Rattle.book.specs.declared.edits.Connective.TheVariants as C
use Rattle.book.specs.Edits.{marked, struck, negation, picked, side_if, join, join_at, joined, folding, rewriting}
use Rattle.nodes.proofs.Found.{of_root, of_head, held_is, held_whole, Two, Same, unchanged}
use Rattle.book.proofs.Edited.{marked_nodes, marked_length}
use Rattle.book.proofs.Turned.{Edit, form_of, nodes_held, and_joined, or_joined, rewriting_edit}

module _ {T : Type 0} where
  pub fold_side : (folds : Bool) (c : Connective) (xs : List (Slot T)) (l r : ℕ) (s u : Slot T) (k : Keep) → l < length xs → r < length xs → k ≡ side_if folds c (constant_of (form (get_or xs l s).node)) (constant_of (form (get_or xs r u).node)) → side_if folds c (constant_of (head (filter_at xs l))) (constant_of (head (filter_at xs r))) ≡ k
  fold_side folds c xs l r s u k hl hr ek =
      ap₂ (side_if folds c) (of_head (nodes xs) l ∙ ap (λ (x : Slot T). constant_of (form x.node)) (get_or_default xs l nowhere s hl)) (of_head (nodes xs) r ∙ ap (λ (x : Slot T). constant_of (form x.node)) (get_or_default xs r nowhere u hr)) ∙ sym ek

  -- what a fold's contract says, by the side that it keeps
  pub fold_is : (folds : Bool) (c : Connective) (xs : List (Slot T)) (n l r : ℕ) (k : Keep) {ys : List (Slot T)} {m : ℕ} → side_if folds c (constant_of (head (filter_at xs l))) (constant_of (head (filter_at xs r))) ≡ k → m ≡ root (picked k (filter_at xs l) (filter_at xs r) (join_at c n (filter_at xs l) (filter_at xs r))) → ys ≡ picked k (struck (filter_at xs r) (marked n Struck xs)) (struck (filter_at xs l) (marked n Struck xs)) (set xs n (slot (join c (root (filter_at xs l)) (root (filter_at xs r))) (at xs n).mark)) → record { answers_the_root : m ≡ root (joined folds c n (filter_at xs l) (filter_at xs r)); folds_in_place : ys ≡ folding folds c n (filter_at xs l) (filter_at xs r) xs }
  fold_is folds c xs n l r k e a s =
      let p = filter_at xs l in
      let q = filter_at xs r in
      record {
        answers_the_root = a ∙ sym (ap (λ x. root (picked x p q (join_at c n p q))) e);
        folds_in_place = s ∙ sym (ap (λ x. picked x (struck q (marked n Struck xs)) (struck p (marked n Struck xs)) (set xs n (slot (join c (root p) (root q)) (at xs n).mark))) e);
      }

  pub whole_edit : (folds : Bool) (xs : List (Slot T)) (n : ℕ) → Whole xs n → Edit (λ k. In k (filter_at xs n)) (rewritten_placed folds opposite (filter_at xs n)) xs (rewriting folds (filter_at xs n) xs)
  whole_edit folds xs n w = rewriting_edit folds (filter_at xs n) xs w.sound w.held (subst (λ k. k < length xs) (sym (of_root (nodes xs) n)) w.inside)

  -- a filter found where it was left
  found : (zs : List (Slot T)) (q : Placed (Held T)) → Holds (nodes zs) q → Sound q → root q < length zs → (a : ℕ) → a ≡ root q → Whole zs a × (filter_at zs a ≡ q)
  found zs q h s i a e = (subst (Whole zs) (sym e) (held_whole zs q h s i), ap (filter_at zs) e ∙ held_is (nodes zs) q h s)

  -- rewriting: both inputs, then the fold
  module _ (folds : Bool) (xs : List (Slot T)) (n l r : ℕ) (two : Two xs n l r) (ys : List (Slot T)) (a : ℕ) (ea : a ≡ root (rewritten_placed folds opposite (filter_at xs l))) (ey : ys ≡ rewriting folds (filter_at xs l) xs) where
    abbrev p : Placed (Held T)
    p = filter_at xs l

    abbrev q : Placed (Held T)
    q = filter_at xs r

    e₁ : Edit (λ k. In k p) (rewritten_placed folds opposite p) xs ys
    e₁ = subst (Edit (λ k. In k p) (rewritten_placed folds opposite p) xs) (sym ey) (whole_edit folds xs l two.first)

    same : Same xs ys r
    same = unchanged xs ys r two.second e₁.long (λ k i. form_of _ _ (e₁.there k (λ j. two.apart k j i)))

    pub rewrite_second : Whole ys r
    rewrite_second = same.whole

    module _ (zs : List (Slot T)) (b : ℕ) (eb : b ≡ root (rewritten_placed folds opposite (filter_at ys r))) (ez : zs ≡ rewriting folds (filter_at ys r) ys) where
      fb : b ≡ root (rewritten_placed folds opposite q)
      fb = eb ∙ ap (λ x. root (rewritten_placed folds opposite x)) same.is

      fz : zs ≡ rewriting folds q ys
      fz = ez ∙ ap (λ x. rewriting folds x ys) same.is

      e₂ : Edit (λ k. In k q) (rewritten_placed folds opposite q) ys zs
      e₂ = subst (λ x. Edit (λ k. In k x) (rewritten_placed folds opposite x) ys zs) same.is (subst (Edit (λ k. In k (filter_at ys r)) (rewritten_placed folds opposite (filter_at ys r)) ys) (sym ez) (whole_edit folds ys r same.whole))

      fits : (k : ℕ) → k < length xs → k < length zs
      fits k h = let x = e₁.long in let y = e₂.long in omega arith

      first : Whole zs a × (filter_at zs a ≡ rewritten_placed folds opposite p)
      first =
          let p' = rewritten_placed folds opposite p in
          found zs p' (frame (nodes ys) (nodes zs) p' (λ k i. form_of _ _ (e₂.there k (λ j. two.apart k (e₁.into k i) j))) e₁.held) (rewritten_sound folds opposite p two.first.sound)
          (fits (root p') (Rattle.nodes.proofs.Found.inside_low xs l two.first (root p') (e₁.into (root p') (root_in p')))) a ea

      second : Whole zs b × (filter_at zs b ≡ rewritten_placed folds opposite q)
      second =
          let q' = rewritten_placed folds opposite q in
          found zs q' e₂.held (rewritten_sound folds opposite q two.second.sound)
          (fits (root q') (Rattle.nodes.proofs.Found.inside_low xs r two.second (root q') (e₂.into (root q') (root_in q')))) b fb

      pub fold_first : Whole zs a
      fold_first = first.0

      pub fold_second : Whole zs b
      fold_second = second.0

      pub fold_inside : n < length xs → n < length zs
      fold_inside h = fits n h

      pub fold_answer : (c : Connective) (m : ℕ) → m ≡ root (joined folds c n (filter_at zs a) (filter_at zs b)) → m ≡ root (joined folds c n (rewritten_placed folds opposite p) (rewritten_placed folds opposite q))
      fold_answer c m e = e ∙ ap₂ (λ u v. root (joined folds c n u v)) first.1 second.1

      pub fold_slots : (c : Connective) (ws : List (Slot T)) → ws ≡ folding folds c n (filter_at zs a) (filter_at zs b) zs → ws ≡ folding folds c n (rewritten_placed folds opposite p) (rewritten_placed folds opposite q) (rewriting folds q (rewriting folds p xs))
      fold_slots c ws e = e ∙ ap₂ (λ u v. folding folds c n u v zs) first.1 second.1 ∙ ap (folding folds c n (rewritten_placed folds opposite p) (rewritten_placed folds opposite q)) (fz ∙ ap (rewriting folds q) ey)

  -- rewriting: a Not
  module _ (folds : Bool) (xs : List (Slot T)) (n i : ℕ) (w : Whole xs i) (ys : List (Slot T)) (a : ℕ) (ea : a ≡ root (rewritten_placed folds opposite (filter_at xs i))) (ey : ys ≡ rewriting folds (filter_at xs i) xs) (zs : List (Slot T)) (ez : zs ≡ marked n Struck ys) where
    abbrev p₁ : Placed (Held T)
    p₁ = filter_at xs i

    here : Whole zs a × (filter_at zs a ≡ rewritten_placed folds opposite p₁)
    here =
        let e = subst (Edit (λ k. In k p₁) (rewritten_placed folds opposite p₁) xs) (sym ey) (whole_edit folds xs i w) in
        let p' = rewritten_placed folds opposite p₁ in
        let ms = marked n Struck ys in
        let lm = marked_length ys n Struck in
        let ly = e.long in
        let f = Rattle.nodes.proofs.Found.inside_low xs i w (root p') (e.into (root p') (root_in p')) in
        subst (λ us. Whole us a × (filter_at us a ≡ p')) (sym ez)
        (found ms p' (nodes_held ys ms (marked_nodes ys n Struck) p' e.held) (rewritten_sound folds opposite p₁ w.sound) (omega arith) a ea)

    pub not_whole : Whole zs a
    not_whole = here.0

    pub not_answer : (m : ℕ) → m ≡ root (negated_placed opposite (filter_at zs a)) → m ≡ root (negated_placed opposite (rewritten_placed folds opposite p₁))
    not_answer m e = e ∙ ap (λ x. root (negated_placed opposite x)) here.1

    pub not_slots : (ws : List (Slot T)) → ws ≡ negation (filter_at zs a) zs → ws ≡ negation (rewritten_placed folds opposite p₁) (marked n Struck (rewriting folds p₁ xs))
    not_slots ws e = e ∙ ap (λ x. negation x zs) here.1 ∙ ap (negation (rewritten_placed folds opposite p₁)) (ez ∙ ap (marked n Struck) ey)

  -- rewriting a join
  pub joined_root : (folds : Bool) (c : Connective) (n : ℕ) (p q : Placed (Held T)) → root (joined folds c n (rewritten_placed folds opposite p) (rewritten_placed folds opposite q)) ≡ root (rewritten_placed folds opposite (join_at c n p q))
  joined_root folds C.And n p q = sym (ap root (and_joined folds n (rewritten_placed folds opposite p) (rewritten_placed folds opposite q)))
  joined_root folds C.Or n p q = sym (ap root (or_joined folds n (rewritten_placed folds opposite p) (rewritten_placed folds opposite q)))

  pub joined_slots : (folds : Bool) (c : Connective) (n : ℕ) (p q : Placed (Held T)) (xs : List (Slot T)) → folding folds c n (rewritten_placed folds opposite p) (rewritten_placed folds opposite q) (rewriting folds q (rewriting folds p xs)) ≡ rewriting folds (join_at c n p q) xs
  joined_slots folds C.And n p q xs = refl
  joined_slots folds C.Or n p q xs = refl

  pub join_root : (c : Connective) (n : ℕ) (l r : Placed (Held T)) → root (join_at c n l r) ≡ n
  join_root C.And n l r = refl
  join_root C.Or n l r = refl
