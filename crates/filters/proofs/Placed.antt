-- Trees in a table: what the calls keep of their numbers.
use Rattle.std.proofs.Common.{◌≡◌, ℕ, ◌<◌, ◌≤◌, Bool, true, false, ◌⊎◌, refl, ap, ◌∙◌, ap₂, inl, inr, arith}
use mathlib.Core.Option.{Option, some, none}
use Rattle.filters.specs.Trees.{And, Or, plain, and_by, or_by, and_if, or_if, negated, rewritten}
use Rattle.filters.specs.Placed.{Form, Placed, constant_at, condition_at, and_node_at, or_node_at, not_node_at, root, tree, In, Apart, Sound, Holds, and_placed_by, or_placed_by, and_placed, or_placed, negated_placed, rewritten_placed}

module _ {X : Type 0} where
  pub root_in : (p : Placed X) → In (root p) p
  root_in (constant_at n b) = refl
  root_in (condition_at n c) = refl
  root_in (and_node_at n l r) = inl refl
  root_in (or_node_at n l r) = inl refl
  root_in (not_node_at n p) = inl refl

  -- the root is the highest
  pub in_le : (p : Placed X) → Sound p → (k : ℕ) → In k p → k ≤ root p
  in_le (constant_at n b) s k e = omega arith
  in_le (condition_at n c) s k e = omega arith
  in_le (and_node_at n l r) s k (inl e) = omega arith
  in_le (and_node_at n l r) s k (inr (inl i)) = omega (arith, in_le l s.3 k i)
  in_le (and_node_at n l r) s k (inr (inr i)) = omega (arith, in_le r s.4 k i)
  in_le (or_node_at n l r) s k (inl e) = omega arith
  in_le (or_node_at n l r) s k (inr (inl i)) = omega (arith, in_le l s.3 k i)
  in_le (or_node_at n l r) s k (inr (inr i)) = omega (arith, in_le r s.4 k i)
  in_le (not_node_at n p) s k (inl e) = omega arith
  in_le (not_node_at n p) s k (inr i) = omega (arith, in_le p s.1 k i)

  -- what the tree's nodes are is all that counts
  pub frame : (at at' : ℕ → Form X) (p : Placed X) → ((k : ℕ) → In k p → at' k ≡ at k) → Holds at p → Holds at' p
  frame at at' (constant_at n b) f h = f n refl ∙ h
  frame at at' (condition_at n c) f h = f n refl ∙ h
  frame at at' (and_node_at n l r) f h = (f n (inl refl) ∙ h.0, frame at at' l (λ k i. f k (inr (inl i))) h.1, frame at at' r (λ k i. f k (inr (inr i))) h.2)
  frame at at' (or_node_at n l r) f h = (f n (inl refl) ∙ h.0, frame at at' l (λ k i. f k (inr (inl i))) h.1, frame at at' r (λ k i. f k (inr (inr i))) h.2)
  frame at at' (not_node_at n p) f h = (f n (inl refl) ∙ h.0, frame at at' p (λ k i. f k (inr i)) h.1)

  -- trees go by the tree operations
  and_by_tree : (p q : Option Bool) (n : ℕ) (l r : Placed X) → tree (and_placed_by p q n l r) ≡ and_by p q (tree l) (tree r)
  and_by_tree (some false) q n l r = refl
  and_by_tree (some true) q n l r = refl
  and_by_tree none (some false) n l r = refl
  and_by_tree none (some true) n l r = refl
  and_by_tree none none n l r = refl

  or_by_tree : (p q : Option Bool) (n : ℕ) (l r : Placed X) → tree (or_placed_by p q n l r) ≡ or_by p q (tree l) (tree r)
  or_by_tree (some true) q n l r = refl
  or_by_tree (some false) q n l r = refl
  or_by_tree none (some true) n l r = refl
  or_by_tree none (some false) n l r = refl
  or_by_tree none none n l r = refl

  pub and_tree : (folds : Bool) (n : ℕ) (l r : Placed X) → tree (and_placed folds n l r) ≡ and_if folds (tree l) (tree r)
  and_tree true n l r = and_by_tree (plain (tree l)) (plain (tree r)) n l r
  and_tree false n l r = refl

  pub or_tree : (folds : Bool) (n : ℕ) (l r : Placed X) → tree (or_placed folds n l r) ≡ or_if folds (tree l) (tree r)
  or_tree true n l r = or_by_tree (plain (tree l)) (plain (tree r)) n l r
  or_tree false n l r = refl

  pub negated_tree : (opposite : X → X) (p : Placed X) → tree (negated_placed opposite p) ≡ negated opposite (tree p)
  negated_tree opposite (constant_at n b) = refl
  negated_tree opposite (condition_at n c) = refl
  negated_tree opposite (and_node_at n l r) = ap₂ Or (negated_tree opposite l) (negated_tree opposite r)
  negated_tree opposite (or_node_at n l r) = ap₂ And (negated_tree opposite l) (negated_tree opposite r)
  negated_tree opposite (not_node_at n p) = refl

  pub rewritten_tree : (folds : Bool) (opposite : X → X) (p : Placed X) → tree (rewritten_placed folds opposite p) ≡ rewritten folds opposite (tree p)
  rewritten_tree folds opposite (constant_at n b) = refl
  rewritten_tree folds opposite (condition_at n c) = refl
  rewritten_tree folds opposite (and_node_at n l r) = and_tree folds n (rewritten_placed folds opposite l) (rewritten_placed folds opposite r) ∙ ap₂ (and_if folds) (rewritten_tree folds opposite l) (rewritten_tree folds opposite r)
  rewritten_tree folds opposite (or_node_at n l r) = or_tree folds n (rewritten_placed folds opposite l) (rewritten_placed folds opposite r) ∙ ap₂ (or_if folds) (rewritten_tree folds opposite l) (rewritten_tree folds opposite r)
  rewritten_tree folds opposite (not_node_at n p) = negated_tree opposite (rewritten_placed folds opposite p) ∙ ap (negated opposite) (rewritten_tree folds opposite p)

  -- no call takes a number from elsewhere
  pub negated_in : (opposite : X → X) (p : Placed X) (k : ℕ) → In k (negated_placed opposite p) → In k p
  negated_in opposite (constant_at n b) k i = i
  negated_in opposite (condition_at n c) k i = i
  negated_in opposite (and_node_at n l r) k (inl e) = inl e
  negated_in opposite (and_node_at n l r) k (inr (inl i)) = inr (inl (negated_in opposite l k i))
  negated_in opposite (and_node_at n l r) k (inr (inr i)) = inr (inr (negated_in opposite r k i))
  negated_in opposite (or_node_at n l r) k (inl e) = inl e
  negated_in opposite (or_node_at n l r) k (inr (inl i)) = inr (inl (negated_in opposite l k i))
  negated_in opposite (or_node_at n l r) k (inr (inr i)) = inr (inr (negated_in opposite r k i))
  negated_in opposite (not_node_at n p) k i = inr i

  and_by_in : (p q : Option Bool) (n : ℕ) (l r : Placed X) (k : ℕ) → In k (and_placed_by p q n l r) → (k ≡ n) ⊎ (In k l ⊎ In k r)
  and_by_in (some false) q n l r k i = inr (inl i)
  and_by_in (some true) q n l r k i = inr (inr i)
  and_by_in none (some false) n l r k i = inr (inr i)
  and_by_in none (some true) n l r k i = inr (inl i)
  and_by_in none none n l r k i = i

  or_by_in : (p q : Option Bool) (n : ℕ) (l r : Placed X) (k : ℕ) → In k (or_placed_by p q n l r) → (k ≡ n) ⊎ (In k l ⊎ In k r)
  or_by_in (some true) q n l r k i = inr (inl i)
  or_by_in (some false) q n l r k i = inr (inr i)
  or_by_in none (some true) n l r k i = inr (inr i)
  or_by_in none (some false) n l r k i = inr (inl i)
  or_by_in none none n l r k i = i

  and_in : (folds : Bool) (n : ℕ) (l r : Placed X) (k : ℕ) → In k (and_placed folds n l r) → (k ≡ n) ⊎ (In k l ⊎ In k r)
  and_in true n l r k i = and_by_in (plain (tree l)) (plain (tree r)) n l r k i
  and_in false n l r k i = i

  or_in : (folds : Bool) (n : ℕ) (l r : Placed X) (k : ℕ) → In k (or_placed folds n l r) → (k ≡ n) ⊎ (In k l ⊎ In k r)
  or_in true n l r k i = or_by_in (plain (tree l)) (plain (tree r)) n l r k i
  or_in false n l r k i = i

  pub rewritten_in : (folds : Bool) (opposite : X → X) (p : Placed X) (k : ℕ) → In k (rewritten_placed folds opposite p) → In k p
  rewritten_in folds opposite (constant_at n b) k i = i
  rewritten_in folds opposite (condition_at n c) k i = i
  rewritten_in folds opposite (and_node_at n l r) k i =
      elim (and_in folds n (rewritten_placed folds opposite l) (rewritten_placed folds opposite r) k i)
      [ inl e ↦ inl e | inr (inl j) ↦ inr (inl (rewritten_in folds opposite l k j)) | inr (inr j) ↦ inr (inr (rewritten_in folds opposite r k j)) ]
  rewritten_in folds opposite (or_node_at n l r) k i =
      elim (or_in folds n (rewritten_placed folds opposite l) (rewritten_placed folds opposite r) k i)
      [ inl e ↦ inl e | inr (inl j) ↦ inr (inl (rewritten_in folds opposite l k j)) | inr (inr j) ↦ inr (inr (rewritten_in folds opposite r k j)) ]
  rewritten_in folds opposite (not_node_at n p) k i = inr (rewritten_in folds opposite p k (negated_in opposite (rewritten_placed folds opposite p) k i))

  -- and each leaves its tree sound
  negated_root : (opposite : X → X) (p : Placed X) → Sound p → root (negated_placed opposite p) ≤ root p
  negated_root opposite p s = in_le p s (root (negated_placed opposite p)) (negated_in opposite p (root (negated_placed opposite p)) (root_in (negated_placed opposite p)))

  pub negated_sound : (opposite : X → X) (p : Placed X) → Sound p → Sound (negated_placed opposite p)
  negated_sound opposite (constant_at n b) s = tt
  negated_sound opposite (condition_at n c) s = tt
  negated_sound opposite (and_node_at n l r) s = (
    omega (arith, negated_root opposite l s.3),
    omega (arith, negated_root opposite r s.4),
    λ k i j. s.2 k (negated_in opposite l k i) (negated_in opposite r k j),
    negated_sound opposite l s.3,
    negated_sound opposite r s.4,
  )
  negated_sound opposite (or_node_at n l r) s = (
    omega (arith, negated_root opposite l s.3),
    omega (arith, negated_root opposite r s.4),
    λ k i j. s.2 k (negated_in opposite l k i) (negated_in opposite r k j),
    negated_sound opposite l s.3,
    negated_sound opposite r s.4,
  )
  negated_sound opposite (not_node_at n p) s = s.1

  and_by_sound : (p q : Option Bool) (n : ℕ) (l r : Placed X) → root l < n → root r < n → Apart l r → Sound l → Sound r → Sound (and_placed_by p q n l r)
  and_by_sound (some false) q n l r a b c s t = s
  and_by_sound (some true) q n l r a b c s t = t
  and_by_sound none (some false) n l r a b c s t = t
  and_by_sound none (some true) n l r a b c s t = s
  and_by_sound none none n l r a b c s t = (a, b, c, s, t)

  or_by_sound : (p q : Option Bool) (n : ℕ) (l r : Placed X) → root l < n → root r < n → Apart l r → Sound l → Sound r → Sound (or_placed_by p q n l r)
  or_by_sound (some true) q n l r a b c s t = s
  or_by_sound (some false) q n l r a b c s t = t
  or_by_sound none (some true) n l r a b c s t = t
  or_by_sound none (some false) n l r a b c s t = s
  or_by_sound none none n l r a b c s t = (a, b, c, s, t)

  and_sound : (folds : Bool) (n : ℕ) (l r : Placed X) → root l < n → root r < n → Apart l r → Sound l → Sound r → Sound (and_placed folds n l r)
  and_sound true n l r a b c s t = and_by_sound (plain (tree l)) (plain (tree r)) n l r a b c s t
  and_sound false n l r a b c s t = (a, b, c, s, t)

  or_sound : (folds : Bool) (n : ℕ) (l r : Placed X) → root l < n → root r < n → Apart l r → Sound l → Sound r → Sound (or_placed folds n l r)
  or_sound true n l r a b c s t = or_by_sound (plain (tree l)) (plain (tree r)) n l r a b c s t
  or_sound false n l r a b c s t = (a, b, c, s, t)

  pub rewritten_sound : (folds : Bool) (opposite : X → X) (p : Placed X) → Sound p → Sound (rewritten_placed folds opposite p)
  rewritten_sound folds opposite (constant_at n b) s = tt
  rewritten_sound folds opposite (condition_at n c) s = tt
  rewritten_sound folds opposite (and_node_at n l r) s =
      let u = rewritten_placed folds opposite l in
      let v = rewritten_placed folds opposite r in
      let hu = in_le l s.3 (root u) (rewritten_in folds opposite l (root u) (root_in u)) in
      let hv = in_le r s.4 (root v) (rewritten_in folds opposite r (root v) (root_in v)) in
      and_sound folds n u v (omega (arith, s.0)) (omega (arith, s.1)) (λ k i j. s.2 k (rewritten_in folds opposite l k i) (rewritten_in folds opposite r k j)) (rewritten_sound folds opposite l s.3) (rewritten_sound folds opposite r s.4)
  rewritten_sound folds opposite (or_node_at n l r) s =
      let u = rewritten_placed folds opposite l in
      let v = rewritten_placed folds opposite r in
      let hu = in_le l s.3 (root u) (rewritten_in folds opposite l (root u) (root_in u)) in
      let hv = in_le r s.4 (root v) (rewritten_in folds opposite r (root v) (root_in v)) in
      or_sound folds n u v (omega (arith, s.0)) (omega (arith, s.1)) (λ k i j. s.2 k (rewritten_in folds opposite l k i) (rewritten_in folds opposite r k j)) (rewritten_sound folds opposite l s.3) (rewritten_sound folds opposite r s.4)
  rewritten_sound folds opposite (not_node_at n p) s = negated_sound opposite (rewritten_placed folds opposite p) (rewritten_sound folds opposite p s.1)
