-- A filter whole in a table, and the node on top of it.
use Rattle.std.specs.Prelude.{ℕ, ◌<◌, Bool, List, length, Some, None, Option}
use Rattle.filters.specs.Placed.{Form, always, test, both, either, other, Placed, constant_at, condition_at, and_node_at, or_node_at, not_node_at, root, Sound, Holds}
use Rattle.nodes.specs.declared.slots.Slot.{Slot}
use Rattle.nodes.specs.Tables.{nodes, filter_at}

-- a filter is in the table, whole
pub record Whole {T : Type 0} (xs : List (Slot T)) (n : ℕ) : Type 0 where
  pub inside : n < length xs
  pub held : Holds (nodes xs) (filter_at xs n)
  pub sound : Sound (filter_at xs n)

-- the constant that a node is, if it is one
abbrev pub constant_of : {X : Type 0} → Form X → Option Bool
constant_of (always b) = Some b
constant_of (test c) = None
constant_of (both l r) = None
constant_of (either l r) = None
constant_of (other i) = None

-- the node on top of a filter
abbrev pub head : {X : Type 0} → Placed X → Form X
head (constant_at n b) = always b
head (condition_at n c) = test c
head (and_node_at n l r) = both (root l) (root r)
head (or_node_at n l r) = either (root l) (root r)
head (not_node_at n p) = other (root p)
