-- The steps of a walk, one node or one answer at a time.
use Rattle.std.specs.Prelude.{ℕ, zero, suc, List, [], ◌∷◌, Ok, Err, Result, slice_index_or}
use Rattle.values.specs.declared.literals.Literal.{Literal}
use Rattle.values.specs.declared.refusals.Refused.{Refused}
use Rattle.filters.specs.Meanings.{Meaning}
use Rattle.filters.specs.Placed.{Form, always, test, both, either, other}
use Rattle.nodes.specs.Conditions.{unary, binary, among}
use Rattle.nodes.specs.Tables.{Held}
use Rattle.columns.specs.declared.column.Column.{Column}
use Rattle.columns.specs.Bound.{bound_of, cells_at}
use Rattle.walk.specs.declared.faults.Fault.{Fault}
use Rattle.walk.specs.declared.frames.Frame.{Frame}
use Rattle.walk.specs.declared.frames.Frame.TheVariants.{Left, Right, Not}
use Rattle.walk.specs.declared.frames.Join.{Join}
use Rattle.walk.specs.declared.frames.Join.TheVariants.{And, Or}
use Rattle.walk.specs.declared.frames.Stack.{Stack}
use Rattle.walk.specs.declared.frames.Turn.{Turn}
use Rattle.walk.specs.declared.frames.Turn.TheVariants.{Visit, Answer}
use Rattle.walk.specs.Faults.{at_node}
use Rattle.walk.specs.Tests.{Tested, tested_by}

-- the first so many frames of a table, the last of them on top
abbrev pub stacked : {A : Type 0} → List (Frame A) → ℕ → List (Frame A)
stacked fs zero = []
stacked fs (suc n) = slice_index_or fs n (Not 0) ∷ stacked fs n

abbrev pub waiting : {A : Type 0} → Stack A → List (Frame A)
waiting s = stacked s.frames.now s.count

abbrev pub node_of : {A : Type 0} → Frame A → ℕ
node_of (Left n j r) = n
node_of (Right n j x) = n
node_of (Not n) = n

-- an answer for what waits
abbrev pub turned : {A : Type 0} → Result A Refused → Result (Turn A) Refused
turned (Ok x) = Ok (Answer x)
turned (Err e) = Err e

abbrev pub joined : {A C : Type 0} → Meaning A Fault C → Join → A → A → Result A Fault
joined m And x y = m.both x y
joined m Or x y = m.either x y

-- a node visited: what comes next, and what waits then
abbrev pub visiting : {A C X : Type 0} → Meaning A Fault C → (X → C) → ℕ → Form X → Result (Turn A) Refused
visiting m read n (always b) = turned (at_node n (m.always b))
visiting m read n (test c) = turned (at_node n (m.on (read c)))
visiting m read n (both l r) = Ok (Visit l)
visiting m read n (either l r) = Ok (Visit l)
visiting m read n (other i) = Ok (Visit i)

abbrev pub awaiting : {A X : Type 0} → ℕ → Form X → List (Frame A) → List (Frame A)
awaiting n (always b) fs = fs
awaiting n (test c) fs = fs
awaiting n (both l r) fs = Left n And r ∷ fs
awaiting n (either l r) fs = Left n Or r ∷ fs
awaiting n (other i) fs = Not n ∷ fs

-- an answer taken up by what waited on top: what comes next, and what waits then
abbrev pub resuming : {A C : Type 0} → Meaning A Fault C → A → Frame A → Result (Turn A) Refused
resuming m x (Left n j r) = Ok (Visit r)
resuming m x (Right n j l) = turned (at_node n (joined m j l x))
resuming m x (Not n) = turned (at_node n (m.other x))

abbrev pub remaining : {A : Type 0} → A → Frame A → List (Frame A) → List (Frame A)
remaining x (Left n j r) fs = Right n j x ∷ fs
remaining x (Right n j l) fs = fs
remaining x (Not n) fs = fs

-- a node's condition as it is lent to a visitor
abbrev pub lent : List ℕ → List ℕ → List Literal → Held Column → Tested
lent places text ls (unary o c) = tested_by text o (bound_of places c) []
lent places text ls (binary o c i) = tested_by text o (bound_of places c) (cells_at ls (record { start = i; count = 1 }))
lent places text ls (among o c r) = tested_by text o (bound_of places c) (cells_at ls r)
