-- Filters as trees, over any kind of condition, and what the book makes of them.
use Rattle.std.specs.Prelude.{◌≡◌, Bool, true, false, not, ◌⊎◌}
use Rattle.std.proofs.Math.Option.{Option, some, none}

pub data Tree (X : Type 0) : Type 0 where
  constant : Bool → Tree X
  condition : X → Tree X
  And : Tree X → Tree X → Tree X
  Or : Tree X → Tree X → Tree X
  Not : Tree X → Tree X

-- the constant that a tree is, if it is one
abbrev pub plain : {X : Type 0} → Tree X → Option Bool
plain (constant b) = some b
plain (condition c) = none
plain (And l r) = none
plain (Or l r) = none
plain (Not t) = none

-- `and` keeps an AlwaysFalse, the left first; else the side beside an AlwaysTrue, the left one counting first; else it is an And
abbrev pub and_by : {X : Type 0} → Option Bool → Option Bool → Tree X → Tree X → Tree X
and_by (some false) q l r = l
and_by (some true) q l r = r
and_by none (some false) l r = r
and_by none (some true) l r = l
and_by none none l r = And l r

abbrev pub and : {X : Type 0} → Tree X → Tree X → Tree X
and l r = and_by (plain l) (plain r) l r

-- `or` is the same with constants exchanged
abbrev pub or_by : {X : Type 0} → Option Bool → Option Bool → Tree X → Tree X → Tree X
or_by (some true) q l r = l
or_by (some false) q l r = r
or_by none (some true) l r = r
or_by none (some false) l r = l
or_by none none l r = Or l r

abbrev pub or : {X : Type 0} → Tree X → Tree X → Tree X
or l r = or_by (plain l) (plain r) l r

-- constants, joins and operators exchanged; of a Not, the inner filter
abbrev pub negated : {X : Type 0} → (X → X) → Tree X → Tree X
negated opposite (constant b) = constant (not b)
negated opposite (condition c) = condition (opposite c)
negated opposite (And l r) = Or (negated opposite l) (negated opposite r)
negated opposite (Or l r) = And (negated opposite l) (negated opposite r)
negated opposite (Not t) = t

-- a join folded, or left as it is
abbrev pub and_if : {X : Type 0} → Bool → Tree X → Tree X → Tree X
and_if true l r = and l r
and_if false l r = And l r

abbrev pub or_if : {X : Type 0} → Bool → Tree X → Tree X → Tree X
or_if true l r = or l r
or_if false l r = Or l r

-- inputs first, each Not by negation; the book folds joins, a bound filter is rewritten with none folded
abbrev pub rewritten : {X : Type 0} → Bool → (X → X) → Tree X → Tree X
rewritten folds opposite (constant b) = constant b
rewritten folds opposite (condition c) = condition c
rewritten folds opposite (And l r) = and_if folds (rewritten folds opposite l) (rewritten folds opposite r)
rewritten folds opposite (Or l r) = or_if folds (rewritten folds opposite l) (rewritten folds opposite r)
rewritten folds opposite (Not t) = negated opposite (rewritten folds opposite t)

-- the tree with each condition read as another
abbrev pub mapped : {X Y : Type 0} → (X → Y) → Tree X → Tree Y
mapped f (constant b) = constant b
mapped f (condition c) = condition (f c)
mapped f (And l r) = And (mapped f l) (mapped f r)
mapped f (Or l r) = Or (mapped f l) (mapped f r)
mapped f (Not t) = Not (mapped f t)

-- P of each condition of the tree
abbrev pub Each : {X : Type 0} → (X → Type 0) → Tree X → Type 0
Each P (constant b) = Unit {0}
Each P (condition c) = P c
Each P (And l r) = Each P l × Each P r
Each P (Or l r) = Each P l × Each P r
Each P (Not t) = Each P t

abbrev pub NoNot : {X : Type 0} → Tree X → Type 0
NoNot (constant b) = Unit {0}
NoNot (condition c) = Unit {0}
NoNot (And l r) = NoNot l × NoNot r
NoNot (Or l r) = NoNot l × NoNot r
NoNot (Not t) = ⊥

abbrev pub NoConstant : {X : Type 0} → Tree X → Type 0
NoConstant (constant b) = ⊥
NoConstant (condition c) = Unit {0}
NoConstant (And l r) = NoConstant l × NoConstant r
NoConstant (Or l r) = NoConstant l × NoConstant r
NoConstant (Not t) = NoConstant t

-- a constant only if it is nothing else
abbrev pub Lone : {X : Type 0} → Tree X → Type 0
Lone t = ((b : _) × (t ≡ constant b)) ⊎ NoConstant t
