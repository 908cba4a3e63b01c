-- Filters in a table of nodes: trees that carry the numbers of their nodes.
use Rattle.std.specs.Prelude.{◌≡◌, ℕ, ◌<◌, Bool, true, false, not, ◌⊎◌}
use Rattle.std.proofs.Math.Option.{Option, some, none}
use Rattle.filters.specs.Trees.{Tree, constant, condition, And, Or, Not, plain}

-- what a node is, its inputs by number
pub data Form (X : Type 0) : Type 0 where
  always : Bool → Form X
  test : X → Form X
  both : ℕ → ℕ → Form X
  either : ℕ → ℕ → Form X
  other : ℕ → Form X

-- a tree whose nodes have their numbers in the table
pub data Placed (X : Type 0) : Type 0 where
  constant_at : ℕ → Bool → Placed X
  condition_at : ℕ → X → Placed X
  and_node_at : ℕ → Placed X → Placed X → Placed X
  or_node_at : ℕ → Placed X → Placed X → Placed X
  not_node_at : ℕ → Placed X → Placed X

abbrev pub root : {X : Type 0} → Placed X → ℕ
root (constant_at n b) = n
root (condition_at n c) = n
root (and_node_at n l r) = n
root (or_node_at n l r) = n
root (not_node_at n p) = n

abbrev pub tree : {X : Type 0} → Placed X → Tree X
tree (constant_at n b) = constant b
tree (condition_at n c) = condition c
tree (and_node_at n l r) = And (tree l) (tree r)
tree (or_node_at n l r) = Or (tree l) (tree r)
tree (not_node_at n p) = Not (tree p)

-- the number is one of the tree's
abbrev pub In : {X : Type 0} → ℕ → Placed X → Type 0
In k (constant_at n b) = k ≡ n
In k (condition_at n c) = k ≡ n
In k (and_node_at n l r) = (k ≡ n) ⊎ (In k l ⊎ In k r)
In k (or_node_at n l r) = (k ≡ n) ⊎ (In k l ⊎ In k r)
In k (not_node_at n p) = (k ≡ n) ⊎ In k p

abbrev pub Apart : {X : Type 0} → Placed X → Placed X → Type 0
Apart p q = (k : ℕ) → In k p → In k q → ⊥

-- children below their parents, and no node under two
abbrev pub Sound : {X : Type 0} → Placed X → Type 0
Sound (constant_at n b) = Unit {0}
Sound (condition_at n c) = Unit {0}
Sound (and_node_at n l r) = (root l < n) × (root r < n) × Apart l r × Sound l × Sound r
Sound (or_node_at n l r) = (root l < n) × (root r < n) × Apart l r × Sound l × Sound r
Sound (not_node_at n p) = (root p < n) × Sound p

-- the table holds the tree
abbrev pub Holds : {X : Type 0} → (ℕ → Form X) → Placed X → Type 0
Holds at (constant_at n b) = at n ≡ always b
Holds at (condition_at n c) = at n ≡ test c
Holds at (and_node_at n l r) = (at n ≡ both (root l) (root r)) × Holds at l × Holds at r
Holds at (or_node_at n l r) = (at n ≡ either (root l) (root r)) × Holds at l × Holds at r
Holds at (not_node_at n p) = (at n ≡ other (root p)) × Holds at p

-- `and`, `or`, `not`, `negate` and `rewrite_not` where the nodes keep their numbers; n is the next number
abbrev pub and_placed_by : {X : Type 0} → Option Bool → Option Bool → ℕ → Placed X → Placed X → Placed X
and_placed_by (some false) q n l r = l
and_placed_by (some true) q n l r = r
and_placed_by none (some false) n l r = r
and_placed_by none (some true) n l r = l
and_placed_by none none n l r = and_node_at n l r

abbrev pub or_placed_by : {X : Type 0} → Option Bool → Option Bool → ℕ → Placed X → Placed X → Placed X
or_placed_by (some true) q n l r = l
or_placed_by (some false) q n l r = r
or_placed_by none (some true) n l r = r
or_placed_by none (some false) n l r = l
or_placed_by none none n l r = or_node_at n l r

abbrev pub and_placed : {X : Type 0} → Bool → ℕ → Placed X → Placed X → Placed X
and_placed true n l r = and_placed_by (plain (tree l)) (plain (tree r)) n l r
and_placed false n l r = and_node_at n l r

abbrev pub or_placed : {X : Type 0} → Bool → ℕ → Placed X → Placed X → Placed X
or_placed true n l r = or_placed_by (plain (tree l)) (plain (tree r)) n l r
or_placed false n l r = or_node_at n l r

abbrev pub negated_placed : {X : Type 0} → (X → X) → Placed X → Placed X
negated_placed opposite (constant_at n b) = constant_at n (not b)
negated_placed opposite (condition_at n c) = condition_at n (opposite c)
negated_placed opposite (and_node_at n l r) = or_node_at n (negated_placed opposite l) (negated_placed opposite r)
negated_placed opposite (or_node_at n l r) = and_node_at n (negated_placed opposite l) (negated_placed opposite r)
negated_placed opposite (not_node_at n p) = p

abbrev pub rewritten_placed : {X : Type 0} → Bool → (X → X) → Placed X → Placed X
rewritten_placed folds opposite (constant_at n b) = constant_at n b
rewritten_placed folds opposite (condition_at n c) = condition_at n c
rewritten_placed folds opposite (and_node_at n l r) = and_placed folds n (rewritten_placed folds opposite l) (rewritten_placed folds opposite r)
rewritten_placed folds opposite (or_node_at n l r) = or_placed folds n (rewritten_placed folds opposite l) (rewritten_placed folds opposite r)
rewritten_placed folds opposite (not_node_at n p) = negated_placed opposite (rewritten_placed folds opposite p)
