-- The filter at a number of a table.
use Rattle.std.proofs.Common.{◌≡◌, ℕ, zero, suc, ◌<◌, ◌≤◌, Bool, true, false, cond, eqb, List, length, get_or, sym, refl, ap, ◌∙◌, subst, ap₂, arith, eqb-true}
use borrow.Author.Tests.{eqb-false}
use borrow.Author.Rules.{get_or_read}
use Rattle.filters.specs.Placed.{Form, always, test, both, either, other, Placed, constant_at, condition_at, and_node_at, or_node_at, not_node_at, root, In, Apart, Sound, Holds}
use Rattle.filters.proofs.Placed.{in_le, frame}
use Rattle.nodes.specs.declared.slots.Slot.{Slot}
use Rattle.nodes.specs.Tables.{grown, below, filter_of, nowhere, at, nodes, filter_at}
use Rattle.nodes.specs.Filters.{Whole, constant_of, head}

module _ {X : Type 0} where
  grown_root : (x : Form X) (n : ℕ) (g : ℕ → Placed X) → root (grown x n g) ≡ n
  grown_root (always b) n g = refl
  grown_root (test c) n g = refl
  grown_root (both l r) n g = refl
  grown_root (either l r) n g = refl
  grown_root (other i) n g = refl

  grown_head : (x : Form X) (n : ℕ) (g : ℕ → Placed X) → constant_of (head (grown x n g)) ≡ constant_of x
  grown_head (always b) n g = refl
  grown_head (test c) n g = refl
  grown_head (both l r) n g = refl
  grown_head (either l r) n g = refl
  grown_head (other i) n g = refl

  module _ (f : ℕ → Form X) where
    below_root : (k n : ℕ) → root (below f k n) ≡ n
    unfolding below
    below_root zero n = refl
    below_root (suc k) n = by (eqb n k) refl (below_root k n)
      where
        by : (b : Bool) → eqb n k ≡ b → root (below f k n) ≡ n → root (cond b (grown (f k) k (below f k)) (below f k n)) ≡ n
        by true e h = grown_root (f k) k (below f k) ∙ sym (eqb-true n k e)
        by false e h = h

    pub of_root : (n : ℕ) → root (filter_of f n) ≡ n
    unfolding filter_of
    of_root n = grown_root (f n) n (below f n)

    pub of_head : (n : ℕ) → constant_of (head (filter_of f n)) ≡ constant_of (f n)
    unfolding filter_of
    of_head n = grown_head (f n) n (below f n)

    below_is : (k n : ℕ) → n < k → below f k n ≡ filter_of f n
    unfolding below filter_of
    below_is zero n h = absurd (omega arith)
    below_is (suc k) n h = by (eqb n k) refl (λ m. below_is k n m)
      where
        by : (b : Bool) → eqb n k ≡ b → (n < k → below f k n ≡ filter_of f n) → cond b (grown (f k) k (below f k)) (below f k n) ≡ filter_of f n
        by true e i = ap (filter_of f) (sym (eqb-true n k e))
        by false e i = let d = eqb-false n k e in i (omega (arith, h, d))

    pub at_always : (n : ℕ) (b : Bool) → f n ≡ always b → filter_of f n ≡ constant_at n b
    unfolding filter_of
    at_always n b e = ap (λ x. grown x n (below f n)) e

    pub at_test : (n : ℕ) (c : X) → f n ≡ test c → filter_of f n ≡ condition_at n c
    unfolding filter_of
    at_test n c e = ap (λ x. grown x n (below f n)) e

    pub at_both : (n l r : ℕ) → f n ≡ both l r → l < n → r < n → filter_of f n ≡ and_node_at n (filter_of f l) (filter_of f r)
    unfolding filter_of
    at_both n l r e hl hr = ap (λ x. grown x n (below f n)) e ∙ ap₂ (and_node_at n) (below_is n l hl) (below_is n r hr)

    pub at_either : (n l r : ℕ) → f n ≡ either l r → l < n → r < n → filter_of f n ≡ or_node_at n (filter_of f l) (filter_of f r)
    unfolding filter_of
    at_either n l r e hl hr = ap (λ x. grown x n (below f n)) e ∙ ap₂ (or_node_at n) (below_is n l hl) (below_is n r hr)

    pub at_other : (n i : ℕ) → f n ≡ other i → i < n → filter_of f n ≡ not_node_at n (filter_of f i)
    unfolding filter_of
    at_other n i e h = ap (λ x. grown x n (below f n)) e ∙ ap (not_node_at n) (below_is n i h)

    -- a sound filter has its inputs below it
    pub below_both : (n l r : ℕ) → f n ≡ both l r → Sound (filter_of f n) → (l < n) × (r < n)
    unfolding filter_of
    below_both n l r e s =
        let t = subst (λ x. Sound (grown x n (below f n))) e s in
        (subst (λ k. k < n) (below_root n l) t.0, subst (λ k. k < n) (below_root n r) t.1)

    pub below_either : (n l r : ℕ) → f n ≡ either l r → Sound (filter_of f n) → (l < n) × (r < n)
    unfolding filter_of
    below_either n l r e s =
        let t = subst (λ x. Sound (grown x n (below f n))) e s in
        (subst (λ k. k < n) (below_root n l) t.0, subst (λ k. k < n) (below_root n r) t.1)

    pub below_other : (n i : ℕ) → f n ≡ other i → Sound (filter_of f n) → i < n
    unfolding filter_of
    below_other n i e s = let t = subst (λ x. Sound (grown x n (below f n))) e s in subst (λ k. k < n) (below_root n i) t.0

    -- what a table holds is what is found there
    pub held_is : (p : Placed X) → Holds f p → Sound p → filter_of f (root p) ≡ p
    held_is (constant_at n b) h s = at_always n b h
    held_is (condition_at n c) h s = at_test n c h
    held_is (and_node_at n l r) h s = at_both n (root l) (root r) h.0 s.0 s.1 ∙ ap₂ (and_node_at n) (held_is l h.1 s.3) (held_is r h.2 s.4)
    held_is (or_node_at n l r) h s = at_either n (root l) (root r) h.0 s.0 s.1 ∙ ap₂ (or_node_at n) (held_is l h.1 s.3) (held_is r h.2 s.4)
    held_is (not_node_at n p) h s = at_other n (root p) h.0 s.0 ∙ ap (not_node_at n) (held_is p h.1 s.1)

module _ {T : Type 0} where
  -- a placed tree that the table holds, sound and inside
  pub held_whole : (xs : List (Slot T)) (p : Placed _) → Holds (nodes xs) p → Sound p → root p < length xs → Whole xs (root p)
  held_whole xs p h s i = let e = sym (held_is (nodes xs) p h s) in record { inside = i; held = subst (Holds (nodes xs)) e h; sound = subst Sound e s }

  -- the parts of a join that is whole
  pub record Two (xs : List (Slot T)) (n l r : ℕ) : Type 0 where
    pub first : Whole xs l
    pub second : Whole xs r
    pub left : l < n
    pub right : r < n
    pub apart : Apart (filter_at xs l) (filter_at xs r)

  pub two_and : (xs : List (Slot T)) (n l r : ℕ) → nodes xs n ≡ both l r → Whole xs n → Two xs n l r
  two_and xs n l r e w =
      let b = below_both (nodes xs) n l r e w.sound in
      let d = at_both (nodes xs) n l r e b.0 b.1 in
      let s = subst Sound d w.sound in
      let h = subst (Holds (nodes xs)) d w.held in
      let i = w.inside in
      record {
        first = record { inside = omega (arith, b.0); held = h.1; sound = s.3 };
        second = record { inside = omega (arith, b.1); held = h.2; sound = s.4 };
        left = b.0;
        right = b.1;
        apart = s.2;
      }

  pub two_or : (xs : List (Slot T)) (n l r : ℕ) → nodes xs n ≡ either l r → Whole xs n → Two xs n l r
  two_or xs n l r e w =
      let b = below_either (nodes xs) n l r e w.sound in
      let d = at_either (nodes xs) n l r e b.0 b.1 in
      let s = subst Sound d w.sound in
      let h = subst (Holds (nodes xs)) d w.held in
      let i = w.inside in
      record {
        first = record { inside = omega (arith, b.0); held = h.1; sound = s.3 };
        second = record { inside = omega (arith, b.1); held = h.2; sound = s.4 };
        left = b.0;
        right = b.1;
        apart = s.2;
      }

  pub record One (xs : List (Slot T)) (n i : ℕ) : Type 0 where
    pub whole : Whole xs i
    pub under : i < n

  pub one_not : (xs : List (Slot T)) (n i : ℕ) → nodes xs n ≡ other i → Whole xs n → One xs n i
  one_not xs n i e w =
      let b = below_other (nodes xs) n i e w.sound in
      let d = at_other (nodes xs) n i e b in
      let s = subst Sound d w.sound in
      let h = subst (Holds (nodes xs)) d w.held in
      let k = w.inside in
      record { whole = record { inside = omega arith; held = h.1; sound = s.1 }; under = b }

  -- a filter whose nodes are unchanged
  pub record Same (xs ys : List (Slot T)) (n : ℕ) : Type 0 where
    pub is : filter_at ys n ≡ filter_at xs n
    pub whole : Whole ys n

  pub unchanged : (xs ys : List (Slot T)) (n : ℕ) → Whole xs n → length ys ≡ length xs → ((k : ℕ) → In k (filter_at xs n) → nodes ys k ≡ nodes xs k) → Same xs ys n
  unchanged xs ys n w e u =
      let p = filter_at xs n in
      let h = frame (nodes xs) (nodes ys) p u w.held in
      let d = of_root (nodes xs) n in
      let i = w.inside in
      let v = held_whole ys p h w.sound (subst (λ k. k < length ys) (sym d) (omega arith)) in
      record {
        is = ap (filter_at ys) (sym d) ∙ held_is (nodes ys) p h w.sound;
        whole = subst (Whole ys) d v;
      }

  pub inside_all : (xs : List (Slot T)) (n : ℕ) → Whole xs n → (k : ℕ) → In k (filter_at xs n) → k ≤ n
  inside_all xs n w k i = subst (λ m. k ≤ m) (of_root (nodes xs) n) (in_le (filter_at xs n) w.sound k i)

  pub inside_low : (xs : List (Slot T)) (n : ℕ) → Whole xs n → (k : ℕ) → In k (filter_at xs n) → k < length xs
  inside_low xs n w k i = let h = inside_all xs n w k i in let j = w.inside in omega arith

  -- a slot as the code reads it
  pub read : (xs : List (Slot T)) (n : ℕ) (s : Slot T) → n < length xs → s ≡ get_or xs n s → at xs n ≡ s
  read xs n s h e = sym (get_or_read xs n s h e nowhere)
