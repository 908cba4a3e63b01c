-- What the edits do to the table, node by node.
use Rattle.std.proofs.Common.{◌≡◌, ℕ, ◌<◌, Bool, true, false, eqb, ltb, List, length, get_or, set, sym, refl, ap, ◌∙◌, subst, ap₂, inl, inr, arith, length-set, get_or-set_other, get_or-set_same, ltb-false, ltb-true, eqb-true}
use mathlib.Core.Logic.{◌⊎◌}
use Rattle.std.proofs.lemmas.List.{get_or_default}
use lib.Seq.{set_out}
use borrow.Author.Tests.{eqb-false}
use Rattle.filters.specs.Placed.{both, either, Placed, constant_at, condition_at, and_node_at, or_node_at, not_node_at, root, In, negated_placed}
use Rattle.nodes.specs.declared.slots.Mark.{Mark}
use Rattle.nodes.specs.declared.slots.Mark.TheVariants.{Struck}
use Rattle.nodes.specs.declared.slots.Node.{Node}
use Rattle.nodes.specs.declared.slots.Node.TheVariants.{AlwaysTrue, AlwaysFalse, And, Or, Not, Unary, Binary, Set}
use Rattle.nodes.specs.declared.slots.Slot.{Slot}
use Rattle.nodes.specs.Conditions.{unary, binary, among, opposite}
use Rattle.nodes.specs.Tables.{Held, slot, nowhere, at, form, nodes, filter_at}
use Rattle.nodes.specs.Filters.{Whole}
use Rattle.book.specs.declared.edits.Connective.{Connective}
use Rattle.book.specs.declared.edits.Connective.TheVariants as C
use Rattle.book.specs.Edits.{marked, struck, negation, join, join_at}
use Rattle.nodes.proofs.Found.{at_always, at_test, at_both, at_either, Two, two_and, two_or, Same, unchanged, inside_all}

module _ {T : Type 0} where
  pub set_here : (xs : List (Slot T)) (n : ℕ) (s : Slot T) → n < length xs → at (set xs n s) n ≡ s
  set_here xs n s h = get_or-set_same xs n s nowhere h

  pub set_there : (xs : List (Slot T)) (n k : ℕ) (s : Slot T) → (k ≡ n → ⊥) → at (set xs n s) k ≡ at xs k
  set_there xs n k s h = get_or-set_other xs n k s nowhere h

  -- a mark changes no node
  pub marked_nodes : (xs : List (Slot T)) (n : ℕ) (m : Mark) (k : ℕ) → (at (marked n m xs) k).node ≡ (at xs k).node
  marked_nodes xs n m k = by (ltb n (length xs)) (eqb k n) refl refl
    where
      by : (b d : Bool) → ltb n (length xs) ≡ b → eqb k n ≡ d → (at (marked n m xs) k).node ≡ (at xs k).node
      by false d e f = ap (λ ys. (at ys k).node) (set_out xs n (slot (at xs n).node m) (ltb-false n (length xs) e))
      by true true e f = let j = eqb-true k n f in subst (λ i. (at (marked n m xs) i).node ≡ (at xs i).node) (sym j) (ap (λ s. s.node) (set_here xs n (slot (at xs n).node m) (ltb-true n (length xs) e)))
      by true false e f = ap (λ s. s.node) (set_there xs n k (slot (at xs n).node m) (eqb-false k n f))

  pub struck_nodes : (p : Placed (Held T)) (xs : List (Slot T)) (k : ℕ) → (at (struck p xs) k).node ≡ (at xs k).node
  struck_nodes (constant_at n b) xs k = marked_nodes xs n Struck k
  struck_nodes (condition_at n c) xs k = marked_nodes xs n Struck k
  struck_nodes (and_node_at n l r) xs k = struck_nodes r (struck l (marked n Struck xs)) k ∙ struck_nodes l (marked n Struck xs) k ∙ marked_nodes xs n Struck k
  struck_nodes (or_node_at n l r) xs k = struck_nodes r (struck l (marked n Struck xs)) k ∙ struck_nodes l (marked n Struck xs) k ∙ marked_nodes xs n Struck k
  struck_nodes (not_node_at n p) xs k = struck_nodes p (marked n Struck xs) k ∙ marked_nodes xs n Struck k

  pub marked_length : (xs : List (Slot T)) (n : ℕ) (m : Mark) → length (marked n m xs) ≡ length xs
  marked_length xs n m = length-set xs n (slot (at xs n).node m)

  pub struck_length : (p : Placed (Held T)) (xs : List (Slot T)) → length (struck p xs) ≡ length xs
  struck_length (constant_at n b) xs = marked_length xs n Struck
  struck_length (condition_at n c) xs = marked_length xs n Struck
  struck_length (and_node_at n l r) xs = struck_length r (struck l (marked n Struck xs)) ∙ struck_length l (marked n Struck xs) ∙ marked_length xs n Struck
  struck_length (or_node_at n l r) xs = struck_length r (struck l (marked n Struck xs)) ∙ struck_length l (marked n Struck xs) ∙ marked_length xs n Struck
  struck_length (not_node_at n p) xs = struck_length p (marked n Struck xs) ∙ marked_length xs n Struck

  pub negation_length : (p : Placed (Held T)) (xs : List (Slot T)) → length (negation p xs) ≡ length xs
  negation_length (constant_at n b) xs = simp length-set
  negation_length (condition_at n c) xs = simp length-set
  negation_length (and_node_at n l r) xs = simp length-set (negation_length r (negation l xs) ∙ negation_length l xs)
  negation_length (or_node_at n l r) xs = simp length-set (negation_length r (negation l xs) ∙ negation_length l xs)
  negation_length (not_node_at n p) xs = marked_length xs n Struck

  -- what is not in the filter stays
  pub negation_there : (p : Placed (Held T)) (xs : List (Slot T)) (k : ℕ) → (In k p → ⊥) → at (negation p xs) k ≡ at xs k
  negation_there (constant_at n b) xs k h = set_there xs n k _ h
  negation_there (condition_at n c) xs k h = set_there xs n k _ h
  negation_there (and_node_at n l r) xs k h = set_there (negation r (negation l xs)) n k _ (λ e. h (inl e)) ∙ negation_there r (negation l xs) k (λ i. h (inr (inr i))) ∙ negation_there l xs k (λ i. h (inr (inl i)))
  negation_there (or_node_at n l r) xs k h = set_there (negation r (negation l xs)) n k _ (λ e. h (inl e)) ∙ negation_there r (negation l xs) k (λ i. h (inr (inr i))) ∙ negation_there l xs k (λ i. h (inr (inl i)))
  negation_there (not_node_at n p) xs k h = set_there xs n k _ (λ e. h (inl e))

  pub struck_there : (p : Placed (Held T)) (xs : List (Slot T)) (k : ℕ) → (In k p → ⊥) → at (struck p xs) k ≡ at xs k
  struck_there (constant_at n b) xs k h = set_there xs n k _ h
  struck_there (condition_at n c) xs k h = set_there xs n k _ h
  struck_there (and_node_at n l r) xs k h = struck_there r (struck l (marked n Struck xs)) k (λ i. h (inr (inr i))) ∙ struck_there l (marked n Struck xs) k (λ i. h (inr (inl i))) ∙ set_there xs n k _ (λ e. h (inl e))
  struck_there (or_node_at n l r) xs k h = struck_there r (struck l (marked n Struck xs)) k (λ i. h (inr (inr i))) ∙ struck_there l (marked n Struck xs) k (λ i. h (inr (inl i))) ∙ set_there xs n k _ (λ e. h (inl e))
  struck_there (not_node_at n p) xs k h = struck_there p (marked n Struck xs) k (λ i. h (inr i)) ∙ set_there xs n k _ (λ e. h (inl e))

  -- a filter in a table where only marks changed
  pub same_nodes : (xs ys : List (Slot T)) (n : ℕ) → Whole xs n → length ys ≡ length xs → ((k : ℕ) → (at ys k).node ≡ (at xs k).node) → Same xs ys n
  same_nodes xs ys n w e u = unchanged xs ys n w e (λ k i. ap form (u k))

  -- striking: both inputs, one after the other
  module _ (xs : List (Slot T)) (n l r : ℕ) (two : Two xs n l r) where
    pub first_struck : Same xs (marked n Struck xs) l
    first_struck = same_nodes xs (marked n Struck xs) l two.first (marked_length xs n Struck) (marked_nodes xs n Struck)

    abbrev then : List (Slot T)
    then = struck (filter_at (marked n Struck xs) l) (marked n Struck xs)

    pub second_struck : Same xs then r
    second_struck =
        same_nodes xs then r two.second
        (struck_length (filter_at (marked n Struck xs) l) (marked n Struck xs) ∙ marked_length xs n Struck)
        (λ k. struck_nodes (filter_at (marked n Struck xs) l) (marked n Struck xs) k ∙ marked_nodes xs n Struck k)

    pub two_struck : struck (filter_at then r) then ≡ struck (filter_at xs r) (struck (filter_at xs l) (marked n Struck xs))
    two_struck = ap₂ (λ q p. struck q (struck p (marked n Struck xs))) second_struck.is first_struck.is

  -- negating: both inputs, one after the other
  module _ (xs : List (Slot T)) (n l r : ℕ) (two : Two xs n l r) where
    abbrev next : List (Slot T)
    next = negation (filter_at xs l) xs

    pub second_negated : Same xs next r
    second_negated = unchanged xs next r two.second (negation_length (filter_at xs l) xs) (λ k i. ap (λ s. form s.node) (negation_there (filter_at xs l) xs k (λ j. two.apart k j i)))

  -- a node, as the code reads it
  pub read_node : (xs : List (Slot T)) (n : ℕ) (d : Slot T) (m : Node T) → n < length xs → (get_or xs n d).node ≡ m → nodes xs n ≡ form m
  read_node xs n d m h e = ap (λ (s : Slot T). form s.node) (get_or_default xs n nowhere d h) ∙ ap form e

  -- a mark, as the code writes it
  pub mark_is : (xs : List (Slot T)) (n : ℕ) (d : Slot T) (m : Mark) → n < length xs → set xs n (slot (get_or xs n d).node m) ≡ marked n m xs
  mark_is xs n d m h = ap (λ (s : Slot T). set xs n (slot s.node m)) (get_or_default xs n d nowhere h)

  -- a node read after its mark was written
  pub read_cut : (xs : List (Slot T)) (n : ℕ) (s d : Slot T) (m : Node T) → n < length xs → (get_or (set xs n (slot (get_or xs n s).node Struck)) n d).node ≡ m → nodes xs n ≡ form m
  read_cut xs n s d m h e = read_node xs n s m h (sym (ap (λ (u : Slot T). u.node) (get_or-set_same xs n (slot (get_or xs n s).node Struck) d h)) ∙ e)

  -- a join of two inputs
  pub record Joins (xs : List (Slot T)) (n l r : ℕ) : Type 0 where
    pub by : Connective
    pub is : nodes xs n ≡ form (join by l r)

  pub joins_cut : (xs : List (Slot T)) (n : ℕ) (s d : Slot T) (l r l' r' : ℕ) → n < length xs → ((get_or (set xs n (slot (get_or xs n s).node Struck)) n d).node ≡ And l r) ⊎ ((get_or (set xs n (slot (get_or xs n s).node Struck)) n d).node ≡ Or l r) → l' ≡ l → r' ≡ r → Joins xs n l' r'
  joins_cut xs n s d l r l' r' h (inl e) f g = record { by = C.And; is = read_cut xs n s d _ h e ∙ ap₂ both (sym f) (sym g) }
  joins_cut xs n s d l r l' r' h (inr e) f g = record { by = C.Or; is = read_cut xs n s d _ h e ∙ ap₂ either (sym f) (sym g) }

  -- a join matched with its connective
  pub read_join : (xs : List (Slot T)) (n : ℕ) (d : Slot T) (c : Connective) (l r : ℕ) (t : Connective × ℕ × ℕ) → n < length xs → (get_or xs n d).node ≡ join c l r → t ≡ (c, l, r) → nodes xs n ≡ form (join t.0 t.1 t.2)
  read_join xs n d c l r t h e f = read_node xs n d (join c l r) h e ∙ sym (ap (λ (u : Connective × ℕ × ℕ). form (join u.0 u.1 u.2)) f)

  pub two_join : (xs : List (Slot T)) (n : ℕ) (c : Connective) (l r : ℕ) → nodes xs n ≡ form (join c l r) → Whole xs n → Two xs n l r
  two_join xs n C.And l r e w = two_and xs n l r e w
  two_join xs n C.Or l r e w = two_or xs n l r e w

  pub at_join : (xs : List (Slot T)) (n : ℕ) (c : Connective) (l r : ℕ) → nodes xs n ≡ form (join c l r) → Two xs n l r → filter_at xs n ≡ join_at c n (filter_at xs l) (filter_at xs r)
  at_join xs n C.And l r e two = at_both (nodes xs) n l r e two.left two.right
  at_join xs n C.Or l r e two = at_either (nodes xs) n l r e two.left two.right

  -- a node with no inputs
  pub data Leaf (xs : List (Slot T)) (n : ℕ) : Type 0 where
    constant_leaf : (b : Bool) → filter_at xs n ≡ constant_at n b → Leaf xs n
    condition_leaf : (c : Held T) → filter_at xs n ≡ condition_at n c → Leaf xs n

  pub leaf : (xs : List (Slot T)) (n : ℕ) (m : Node T) → nodes xs n ≡ form m → ((l r : ℕ) → m ≡ And l r → ⊥) → ((l r : ℕ) → m ≡ Or l r → ⊥) → ((i : ℕ) → m ≡ Not i → ⊥) → Leaf xs n
  leaf xs n AlwaysTrue e a o i = constant_leaf true (at_always (nodes xs) n true e)
  leaf xs n AlwaysFalse e a o i = constant_leaf false (at_always (nodes xs) n false e)
  leaf xs n (And l r) e a o i = absurd (a l r refl)
  leaf xs n (Or l r) e a o i = absurd (o l r refl)
  leaf xs n (Not k) e a o i = absurd (i k refl)
  leaf xs n (Unary o t) e a b i = condition_leaf (unary o t) (at_test (nodes xs) n (unary o t) e)
  leaf xs n (Binary o t k) e a b i = condition_leaf (binary o t k) (at_test (nodes xs) n (binary o t k) e)
  leaf xs n (Set o t k) e a b i = condition_leaf (among o t k) (at_test (nodes xs) n (among o t k) e)

  -- striking, as the code goes
  pub strike_leaf : (xs ys : List (Slot T)) (n : ℕ) → ys ≡ marked n Struck xs → Leaf xs n → ys ≡ struck (filter_at xs n) xs
  strike_leaf xs ys n e (constant_leaf b d) = e ∙ sym (ap (λ p. struck p xs) d)
  strike_leaf xs ys n e (condition_leaf c d) = e ∙ sym (ap (λ p. struck p xs) d)

  module _ (xs : List (Slot T)) (n : ℕ) {ys : List (Slot T)} (e : ys ≡ marked n Struck xs) where
    module _ {l r : ℕ} (two : Two xs n l r) where
      pub strike_first : Whole ys l
      strike_first = subst (λ us. Whole us l) (sym e) (first_struck xs n l r two).whole

      pub strike_second : {zs : List (Slot T)} → zs ≡ struck (filter_at ys l) ys → Whole zs r
      strike_second d = subst (λ us. Whole us r) (sym (d ∙ ap (λ us. struck (filter_at us l) us) e)) (second_struck xs n l r two).whole

      pub strike_two : {zs ws : List (Slot T)} (j : Joins xs n l r) → zs ≡ struck (filter_at ys l) ys → ws ≡ struck (filter_at zs r) zs → ws ≡ struck (filter_at xs n) xs
      strike_two j d f =
          f ∙ ap (λ us. struck (filter_at us r) us) (d ∙ ap (λ us. struck (filter_at us l) us) e) ∙ two_struck xs n l r two ∙ by_join j.by ∙ sym (ap (λ p. struck p xs) (at_join xs n j.by l r j.is two))
        where
          by_join : (c : Connective) → struck (filter_at xs r) (struck (filter_at xs l) (marked n Struck xs)) ≡ struck (join_at c n (filter_at xs l) (filter_at xs r)) xs
          by_join C.And = refl
          by_join C.Or = refl

    module _ {i : ℕ} (w : Whole xs i) where
      only_struck : Same xs (marked n Struck xs) i
      only_struck = same_nodes xs (marked n Struck xs) i w (marked_length xs n Struck) (marked_nodes xs n Struck)

      pub strike_only : Whole ys i
      strike_only = subst (λ us. Whole us i) (sym e) only_struck.whole

      pub strike_one : {zs : List (Slot T)} → zs ≡ struck (filter_at ys i) ys → zs ≡ struck (filter_at xs i) (marked n Struck xs)
      strike_one d = d ∙ ap (λ us. struck (filter_at us i) us) e ∙ ap (λ p. struck p (marked n Struck xs)) only_struck.is

  -- negating, as the code goes
  module _ {xs : List (Slot T)} {n l r : ℕ} (two : Two xs n l r) {ys : List (Slot T)} {a : ℕ} (ea : a ≡ root (negated_placed opposite (filter_at xs l))) (ey : ys ≡ negation (filter_at xs l) xs) where
    pub negate_second : Whole ys r
    negate_second = subst (λ us. Whole us r) (sym ey) (second_negated xs n l r two).whole

    module _ {zs : List (Slot T)} {b : ℕ} (eb : b ≡ root (negated_placed opposite (filter_at ys r))) (ez : zs ≡ negation (filter_at ys r) ys) where
      same : filter_at ys r ≡ filter_at xs r
      same = ap (λ us. filter_at us r) ey ∙ (second_negated xs n l r two).is

      both_negated : zs ≡ negation (filter_at xs r) (negation (filter_at xs l) xs)
      both_negated = ez ∙ ap₂ negation same ey

      pub negate_stays : at zs n ≡ at xs n
      negate_stays =
          ap (λ us. at us n) both_negated
          ∙ negation_there (filter_at xs r) (negation (filter_at xs l) xs) n (λ i. let h = inside_all xs r two.second n i in let k = two.right in absurd (omega arith))
          ∙ negation_there (filter_at xs l) xs n (λ i. let h = inside_all xs l two.first n i in let k = two.left in absurd (omega arith))

      pub negate_two : (J : ℕ → ℕ → Node T) → set zs n (slot (J a b) (at xs n).mark) ≡ set (negation (filter_at xs r) (negation (filter_at xs l) xs)) n (slot (J (root (negated_placed opposite (filter_at xs l))) (root (negated_placed opposite (filter_at xs r)))) (at xs n).mark)
      negate_two J = let fb = eb ∙ ap (λ p. root (negated_placed opposite p)) same in simp (ea, fb, both_negated)
