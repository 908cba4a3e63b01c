-- What striking, negating and rewriting in place leave in the table.
use Rattle.std.specs.Prelude.{ℕ, Bool, true, false, cond, not, List, Some, None, Option, slice_set}
use Rattle.filters.specs.Placed.{Placed, constant_at, condition_at, and_node_at, or_node_at, not_node_at, root, negated_placed, rewritten_placed}
use Rattle.nodes.specs.declared.slots.Mark.{Mark}
use Rattle.nodes.specs.declared.slots.Mark.TheVariants.{Struck}
use Rattle.nodes.specs.declared.slots.Node.{Node}
use Rattle.nodes.specs.declared.slots.Node.TheVariants.{AlwaysTrue, AlwaysFalse, And, Or, Unary, Binary, Set}
use Rattle.nodes.specs.declared.slots.Slot.{Slot}
use Rattle.nodes.specs.Conditions.{unary, binary, among, opposite}
use Rattle.nodes.specs.Tables.{Held, slot, at}
use Rattle.nodes.specs.Filters.{constant_of, head}
use Rattle.book.specs.declared.edits.Connective.{Connective}
use Rattle.book.specs.declared.edits.Connective.TheVariants as C
use Rattle.book.specs.declared.edits.Keep.{Keep}
use Rattle.book.specs.declared.edits.Keep.TheVariants.{First, Second, Both}

abbrev pub marked : {T : Type 0} → ℕ → Mark → List (Slot T) → List (Slot T)
marked n m xs = slice_set xs n (slot (at xs n).node m)

abbrev pub constant : {T : Type 0} → Bool → Node T
constant true = AlwaysTrue
constant false = AlwaysFalse

abbrev pub holding : {T : Type 0} → Held T → Node T
holding (unary o t) = Unary o t
holding (binary o t l) = Binary o t l
holding (among o t r) = Set o t r

-- struck whole
abbrev pub struck : {T : Type 0} → Placed (Held T) → List (Slot T) → List (Slot T)
struck (constant_at n b) xs = marked n Struck xs
struck (condition_at n c) xs = marked n Struck xs
struck (and_node_at n l r) xs = struck r (struck l (marked n Struck xs))
struck (or_node_at n l r) xs = struck r (struck l (marked n Struck xs))
struck (not_node_at n p) xs = struck p (marked n Struck xs)

-- negated: each node by itself, its inputs first; a Not is struck and its input stays
abbrev pub negation : {T : Type 0} → Placed (Held T) → List (Slot T) → List (Slot T)
negation (constant_at n b) xs = slice_set xs n (slot (constant (not b)) (at xs n).mark)
negation (condition_at n c) xs = slice_set xs n (slot (holding (opposite c)) (at xs n).mark)
negation (and_node_at n l r) xs = slice_set (negation r (negation l xs)) n (slot (Or (root (negated_placed opposite l)) (root (negated_placed opposite r))) (at xs n).mark)
negation (or_node_at n l r) xs = slice_set (negation r (negation l xs)) n (slot (And (root (negated_placed opposite l)) (root (negated_placed opposite r))) (at xs n).mark)
negation (not_node_at n p) xs = marked n Struck xs

-- Which side a join keeps. `and` keeps an AlwaysFalse, the left first; else the side beside an AlwaysTrue, the left one
-- counting first; else both. `or` is the same with constants exchanged.
abbrev pub side : Connective → Option Bool → Option Bool → Keep
side C.And (Some b) q = cond b Second First
side C.And None (Some b) = cond b First Second
side C.And None None = Both
side C.Or (Some b) q = cond b First Second
side C.Or None (Some b) = cond b Second First
side C.Or None None = Both

-- where joins are left as they are, both
abbrev pub side_if : Bool → Connective → Option Bool → Option Bool → Keep
side_if true c p q = side c p q
side_if false c p q = Both

abbrev pub picked : {Y : Type 0} → Keep → Y → Y → Y → Y
picked First a b c = a
picked Second a b c = b
picked Both a b c = c

abbrev pub join : {T : Type 0} → Connective → ℕ → ℕ → Node T
join C.And l r = And l r
join C.Or l r = Or l r

abbrev pub join_at : {X : Type 0} → Connective → ℕ → Placed X → Placed X → Placed X
join_at C.And n l r = and_node_at n l r
join_at C.Or n l r = or_node_at n l r

-- the join at n of two filters
abbrev pub joined : {X : Type 0} → Bool → Connective → ℕ → Placed X → Placed X → Placed X
joined folds c n l r = picked (side_if folds c (constant_of (head l)) (constant_of (head r))) l r (join_at c n l r)

-- a join at n folded in place: the side kept stays, the rest is struck
abbrev pub folding : {T : Type 0} → Bool → Connective → ℕ → Placed (Held T) → Placed (Held T) → List (Slot T) → List (Slot T)
folding folds c n l r xs =
    picked (side_if folds c (constant_of (head l)) (constant_of (head r)))
    (struck r (marked n Struck xs))
    (struck l (marked n Struck xs))
    (slice_set xs n (slot (join c (root l) (root r)) (at xs n).mark))

-- rewritten, inputs first: joins folded or not, each Not struck and its input negated
abbrev pub rewriting : {T : Type 0} → Bool → Placed (Held T) → List (Slot T) → List (Slot T)
rewriting folds (constant_at n b) xs = xs
rewriting folds (condition_at n c) xs = xs
rewriting folds (and_node_at n l r) xs = folding folds C.And n (rewritten_placed folds opposite l) (rewritten_placed folds opposite r) (rewriting folds r (rewriting folds l xs))
rewriting folds (or_node_at n l r) xs = folding folds C.Or n (rewritten_placed folds opposite l) (rewritten_placed folds opposite r) (rewriting folds r (rewriting folds l xs))
rewriting folds (not_node_at n p) xs = negation (rewritten_placed folds opposite p) (marked n Struck (rewriting folds p xs))
