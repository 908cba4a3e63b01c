-- The lent table as a table of nodes, and the filter at a number.
use Rattle.std.specs.Prelude.{ℕ, zero, suc, true, false, cond, List, ◌==◌, slice_index_or}
use Rattle.filters.specs.Placed.{Form, always, test, both, either, other, Placed, constant_at, condition_at, and_node_at, or_node_at, not_node_at}
use Rattle.nodes.specs.declared.slots.Mark.{Mark}
use Rattle.nodes.specs.declared.slots.Mark.TheVariants.{Struck}
use Rattle.nodes.specs.declared.slots.Node.{Node}
use Rattle.nodes.specs.declared.slots.Node.TheVariants.{AlwaysTrue, AlwaysFalse, And, Or, Not, Unary, Binary, Set}
use Rattle.nodes.specs.declared.slots.Run.{Run}
use Rattle.nodes.specs.declared.slots.Slot.{Slot}
use Rattle.nodes.specs.Conditions.{Condition, unary, binary, among}

-- a condition as a node holds it: its literals by their numbers
abbrev pub Held : Type 0 → Type 0
Held T = Condition T ℕ Run

abbrev pub slot : {T : Type 0} → Node T → Mark → Slot T
slot n m = record { node = n; mark = m }

-- what stands past the table's end
abbrev pub nowhere : {T : Type 0} → Slot T
nowhere = slot AlwaysTrue Struck

abbrev pub at : {T : Type 0} → List (Slot T) → ℕ → Slot T
at xs n = slice_index_or xs n nowhere

abbrev pub form : {T : Type 0} → Node T → Form (Held T)
form AlwaysTrue = always true
form AlwaysFalse = always false
form (And l r) = both l r
form (Or l r) = either l r
form (Not i) = other i
form (Unary o t) = test (unary o t)
form (Binary o t l) = test (binary o t l)
form (Set o t r) = test (among o t r)

abbrev pub nodes : {T : Type 0} → List (Slot T) → ℕ → Form (Held T)
nodes xs k = form (at xs k).node

-- a node with the filters below it
abbrev pub grown : {X : Type 0} → Form X → ℕ → (ℕ → Placed X) → Placed X
grown (always b) n f = constant_at n b
grown (test c) n f = condition_at n c
grown (both l r) n f = and_node_at n (f l) (f r)
grown (either l r) n f = or_node_at n (f l) (f r)
grown (other i) n f = not_node_at n (f i)

-- the filters at the numbers below k
unfoldable pub below : {X : Type 0} → (ℕ → Form X) → ℕ → ℕ → Placed X
below f zero n = constant_at n true
below f (suc k) n = cond (n == k) (grown (f k) k (below f k)) (below f k n)

-- the filter at a number, children being below their parents
unfoldable pub filter_of : {X : Type 0} → (ℕ → Form X) → ℕ → Placed X
filter_of f n = grown (f n) n (below f n)

abbrev pub filter_at : {T : Type 0} → List (Slot T) → ℕ → Placed (Held T)
filter_at xs n = filter_of (nodes xs) n
