-- Which node of a book's tables is unsound.
use Rattle.std.specs.Prelude.{ℕ, zero, suc, ◌+◌, min, Bool, true, false, cond, ◌&&◌, List, length, take, drop, Some, None, Option, ◌==◌, nat_le, nat_lt}
use Rattle.std.specs.List.{list_all}
use Rattle.values.specs.declared.literals.Literal.{Literal}
use Rattle.values.specs.Contents.{text_inside}
use Rattle.filters.specs.Placed.{Form, always, test, both, either, other}
use Rattle.nodes.specs.declared.slots.Mark.{Mark}
use Rattle.nodes.specs.declared.slots.Mark.TheVariants.{Standing, Joined, Struck}
use Rattle.nodes.specs.declared.slots.Slot.{Slot}
use Rattle.nodes.specs.Operators.{is_unary, is_binary, is_set}
use Rattle.nodes.specs.Conditions.{unary, binary, among}
use Rattle.nodes.specs.Tables.{Held, at, form, nodes}

-- so many literals from a number on are there, and their text lies inside the text of so many bytes
abbrev pub literals_in : ℕ → List Literal → ℕ → ℕ → Bool
literals_in text ls start count = nat_le (start + count) (length ls) && list_all (λ l. text_inside text l.value) (take count (drop start ls))

-- the operator is of the condition's family, the term lies inside its tables, and so do the literals
abbrev pub fits : {T : Type 0} → (T → Bool) → ℕ → List Literal → Held T → Bool
fits within text ls (unary o t) = is_unary o && within t
fits within text ls (binary o t i) = is_binary o && (within t && literals_in text ls i 1)
fits within text ls (among o t r) = is_set o && (within t && literals_in text ls r.start r.count)

-- how often a node has n for an input
abbrev pub bit : Bool → ℕ
bit b = cond b 1 0

abbrev pub uses : {X : Type 0} → Form X → ℕ → ℕ
uses (always b) n = 0
uses (test c) n = 0
uses (both l r) n = bit (l == n) + bit (r == n)
uses (either l r) n = bit (l == n) + bit (r == n)
uses (other i) n = bit (i == n)

-- a struck node does not count as a parent
abbrev pub claims_by : {X : Type 0} → Mark → Form X → ℕ → ℕ
claims_by Standing x n = uses x n
claims_by Joined x n = uses x n
claims_by Struck x n = 0

abbrev pub claims : {T : Type 0} → Slot T → ℕ → ℕ
claims s n = claims_by s.mark (form s.node) n

-- how many parents n has that are not struck, among the first k nodes
abbrev pub parents : {T : Type 0} → List (Slot T) → ℕ → ℕ → ℕ
parents xs zero n = 0
parents xs (suc k) n = parents xs k n + claims (at xs k) n

abbrev pub is_joined : Mark → Bool
is_joined Standing = false
is_joined Joined = true
is_joined Struck = false

-- the inputs are below the node, and a condition fits
abbrev pub in_order : {X : Type 0} → (X → Bool) → Form X → ℕ → Bool
in_order fit (always b) n = true
in_order fit (test c) n = fit c
in_order fit (both l r) n = nat_lt l n && nat_lt r n
in_order fit (either l r) n = nat_lt l n && nat_lt r n
in_order fit (other i) n = nat_lt i n

-- and one parent that is not struck if the node is marked joined, none otherwise
abbrev pub sound_at : {T : Type 0} → (Held T → Bool) → List (Slot T) → ℕ → ℕ → Bool
sound_at fit xs used n = in_order fit (nodes xs n) n && parents xs used n == bit (is_joined (at xs n).mark)

abbrev pub else_at : Option ℕ → Bool → ℕ → Option ℕ
else_at (Some i) b k = Some i
else_at None b k = cond b None (Some k)

-- the lowest number below k that fails the test
abbrev pub lowest : (ℕ → Bool) → ℕ → Option ℕ
lowest good zero = None
lowest good (suc k) = else_at (lowest good k) (good k) k

-- how many nodes, and how many literals, there may be
abbrev pub node_room : {T : Type 0} → List (Slot T) → ℕ
node_room xs = min (length xs) 256

abbrev pub literal_room : List Literal → ℕ
literal_room ls = min (length ls) 1024

-- the literals that are used
abbrev pub used_of : List Literal → ℕ → List Literal
used_of ls stored = take (min stored (literal_room ls)) ls

-- The lowest unsound node. Of a count beyond its table, it is the first number that has no node.
unfoldable pub unsound : {T : Type 0} → (T → Bool) → ℕ → List (Slot T) → ℕ → List Literal → ℕ → Option ℕ
unsound within text xs used ls stored =
    let k = min used (node_room xs) in
    else_at (lowest (sound_at (fits within text (used_of ls stored)) xs k) k) (nat_le used (node_room xs) && nat_le stored (literal_room ls)) k

abbrev pub is_standing : Mark → Bool
is_standing Standing = true
is_standing Joined = false
is_standing Struck = false

-- a filter stands at the number
abbrev pub stands : {T : Type 0} → List (Slot T) → ℕ → ℕ → Bool
stands xs used n = nat_lt n used && is_standing (at xs n).mark
