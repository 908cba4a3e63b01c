-- What each call answers and leaves.
use Rattle.std.specs.Prelude.{ℕ, ◌+◌, Bool, true, false, not, List, [], ◌∷◌, length, Some, None, Ok, Err, Option, Result, ◌==◌, nat_le, nat_lt, slice_set}
use Rattle.values.specs.declared.literals.Literal.{Literal}
use Rattle.values.specs.declared.refusals.Reason.{Reason}
use Rattle.values.specs.declared.refusals.Reason.TheVariants as R
use Rattle.values.specs.declared.refusals.Refused.{Refused}
use Rattle.values.specs.Contents.{text_inside}
use Rattle.values.specs.Admission.{first_failing}
use Rattle.values.specs.Kept.{well_kept}
use Rattle.lists.specs.Keep.{kept, placed}
use Rattle.filters.specs.Placed.{root, negated_placed, rewritten_placed}
use Rattle.nodes.specs.declared.operators.PredicateOperator.{PredicateOperator}
use Rattle.nodes.specs.declared.slots.Mark.TheVariants.{Standing, Joined}
use Rattle.nodes.specs.declared.slots.Node.{Node}
use Rattle.nodes.specs.declared.slots.Node.TheVariants.{Not, Unary, Binary, Set}
use Rattle.nodes.specs.declared.slots.Run.{Run}
use Rattle.nodes.specs.declared.slots.Slot.{Slot}
use Rattle.nodes.specs.declared.term.Extent.{Extent}
use Rattle.nodes.specs.Operators.{is_unary, is_binary, is_set}
use Rattle.nodes.specs.Conditions.{opposite}
use Rattle.nodes.specs.Tables.{slot, nodes, filter_at}
use Rattle.nodes.specs.Filters.{constant_of}
use Rattle.nodes.specs.Soundness.{unsound, stands, node_room, literal_room}
use Rattle.book.specs.declared.edits.Connective.{Connective}
use Rattle.book.specs.declared.edits.Connective.TheVariants as C
use Rattle.book.specs.Equality.{same_literal}
use Rattle.book.specs.Edits.{marked, constant, struck, negation, rewriting, side, picked, join}

-- the tables that the calls write: nodes and literals, each with its count
pub record Tables (T : Type 0) : Type 0 where
  pub slots : List (Slot T)
  pub used : ℕ
  pub literals : List Literal
  pub stored : ℕ

-- what they only read: when a term lies inside its tables, and the bytes of text
pub record Setting (T : Type 0) : Type 0 where
  pub within : T → Bool
  pub text : List ℕ

-- a call with its arguments
pub data Asked (T : Type 0) : Type 0 where
  lay_constant : Bool → Asked T
  lay_unary : PredicateOperator → T → Asked T
  lay_binary : PredicateOperator → T → Literal → Asked T
  lay_set : PredicateOperator → T → List Literal → Asked T
  ask_and ask_or : ℕ → ℕ → Asked T
  ask_not ask_negate ask_rewrite : ℕ → Asked T

-- what a call leaves in the tables, and what it answers
pub record After (T : Type 0) : Type 0 where
  pub tables : Tables T
  pub answer : Result ℕ Refused

abbrev pub after : {T : Type 0} → Tables T → Result ℕ Refused → After T
after b r = record { tables = b; answer = r }

abbrev pub tables_of : {T : Type 0} → List (Slot T) → ℕ → List Literal → ℕ → Tables T
tables_of xs used ls stored = record { slots = xs; used = used; literals = ls; stored = stored }

-- a text, and so many places
abbrev pub reads : {T : Type 0} → (Extent → T → Bool) → List ℕ → ℕ → Setting T
reads within text places = record { within = within (record { text = length text; places = places }); text = text }

-- ---- refusals, in their order

abbrev pub refused : Reason → ℕ → Refused
refused r n = record { reason = r; place = n }

-- the first reason that there is
abbrev pub else : Option Refused → Option Refused → Option Refused
else (Some e) q = Some e
else None q = q

abbrev pub unless : Bool → Reason → ℕ → Option Refused
unless true r n = None
unless false r n = Some (refused r n)

-- what is answered where there is no reason
abbrev pub granted : {X : Type 0} → Option Refused → X → Result X Refused
granted (Some e) x = Err e
granted None x = Ok x

abbrev pub at_place : Reason → Option ℕ → Option Refused
at_place r (Some n) = Some (refused r n)
at_place r None = None

-- unsound tables, at the lowest unsound node
abbrev pub barred : {T : Type 0} → Setting T → Tables T → Option Refused
barred s b = at_place R.UnsoundTables (unsound s.within (length s.text) b.slots b.used b.literals b.stored)

abbrev pub no_filter : {T : Type 0} → Tables T → ℕ → Option Refused
no_filter b a = unless (stands b.slots b.used a) R.NoFilter a

-- then a filter that does not stand, the left first; then one filter on both sides
unfoldable pub barred_one : {T : Type 0} → Setting T → Tables T → ℕ → Option Refused
barred_one s b a = else (barred s b) (no_filter b a)

unfoldable pub barred_two : {T : Type 0} → Setting T → Tables T → ℕ → ℕ → Option Refused
barred_two s b a c = else (barred s b) (else (no_filter b a) (else (no_filter b c) (unless (not (a == c)) R.SameFilter a)))

-- an operator of another family; the name outside its tables; the first literal with text outside; the first that its kind does not keep
unfoldable pub barred_leaf : {T : Type 0} → Setting T → Tables T → Bool → T → List Literal → Option Refused
barred_leaf s b family t ls =
    else (barred s b)
    (else (unless family R.OtherFamily 0)
    (else (unless (s.within t) R.TextOutside 0)
    (else (at_place R.TextOutside (first_failing (λ l. text_inside (length s.text) l.value) 0 ls))
    (at_place R.OtherStorage (first_failing well_kept 0 ls)))))

-- no node left; kept literals that don't fit
unfoldable pub full : {T : Type 0} → List (Slot T) → ℕ → Option Refused
full xs used = unless (nat_lt used (node_room xs)) R.NoNodeLeft 0

unfoldable pub crowded : List Literal → ℕ → List Literal → Option Refused
crowded ls stored new = unless (nat_le (stored + length new) (literal_room ls)) R.LiteralsDontFit 0

-- what a set or a binary condition stores of the literals given: of equal ones the first
abbrev pub kept_of : {T : Type 0} → Setting T → List Literal → List Literal
kept_of s ls = kept (same_literal s.text) ls

abbrev pub no_room : {T : Type 0} → Tables T → List Literal → Option Refused
no_room b new = else (full b.slots b.used) (crowded b.literals b.stored new)

-- the cells that they come to lie in
abbrev pub cells : {T : Type 0} → Tables T → List Literal → Run
cells b new = record { start = b.stored; count = length new }

-- ---- the calls

-- a refusal leaves everything as it was
abbrev pub outcome : {T : Type 0} → Tables T → Option Refused → After T → After T
outcome b (Some e) done = after b (Err e)
outcome b None done = done

-- what is written to the nodes, and the answer
pub record Written (T : Type 0) : Type 0 where
  pub slots : List (Slot T)
  pub used : ℕ
  pub answer : Result ℕ Refused

abbrev pub written : {T : Type 0} → List (Slot T) → ℕ → Result ℕ Refused → Written T
written xs used r = record { slots = xs; used = used; answer = r }

-- the literals stay
abbrev pub writing : {T : Type 0} → Tables T → Written T → After T
writing b w = after (tables_of w.slots w.used b.literals b.stored) w.answer

-- literals stored first
abbrev pub storing : {T : Type 0} → Tables T → List Literal → Tables T
storing b new = tables_of b.slots b.used (placed b.literals b.stored new) (b.stored + length new)

-- one node laid, standing
abbrev pub laid : {T : Type 0} → List (Slot T) → ℕ → Node T → Written T
laid xs used node = written (slice_set xs used (slot node Standing)) (used + 1) (Ok used)

-- if a node is left
abbrev pub roomy : {T : Type 0} → List (Slot T) → ℕ → Option Refused → Written T → Written T
roomy xs used (Some e) w = written xs used (Err e)
roomy xs used None w = w

abbrev pub laying : {T : Type 0} → List (Slot T) → ℕ → Node T → Written T
laying xs used node = roomy xs used (full xs used) (laid xs used node)

unfoldable pub constant_after : {T : Type 0} → Setting T → Tables T → Bool → After T
constant_after s b k = outcome b (barred s b) (writing b (laying b.slots b.used (constant k)))

unfoldable pub unary_after : {T : Type 0} → Setting T → Tables T → PredicateOperator → T → After T
unary_after s b o t = outcome b (barred_leaf s b (is_unary o) t []) (writing b (laying b.slots b.used (Unary o t)))

unfoldable pub binary_after : {T : Type 0} → Setting T → Tables T → PredicateOperator → T → Literal → After T
binary_after s b o t l =
    let new = l ∷ [] in
    outcome b (else (barred_leaf s b (is_binary o) t new) (else (full b.slots b.used) (crowded b.literals b.stored new)))
    (writing (storing b new) (laid b.slots b.used (Binary o t b.stored)))

-- a set keeps the first of equal literals
unfoldable pub set_after : {T : Type 0} → Setting T → Tables T → PredicateOperator → T → List Literal → After T
set_after s b o t ls =
    let new = kept (same_literal s.text) ls in
    outcome b (else (barred_leaf s b (is_set o) t ls) (else (full b.slots b.used) (crowded b.literals b.stored new)))
    (writing (storing b new) (laid b.slots b.used (Set o t (record { start = b.stored; count = length new }))))

abbrev pub over : {T : Type 0} → List (Slot T) → ℕ → ℕ → Written T
over xs used a = roomy xs used (full xs used) (laid (marked a Joined xs) used (Not a))

unfoldable pub not_after : {T : Type 0} → Setting T → Tables T → ℕ → After T
not_after s b a = outcome b (barred_one s b a) (writing b (over b.slots b.used a))

-- the side that is not kept is struck whole
abbrev pub joining : {T : Type 0} → Connective → List (Slot T) → ℕ → ℕ → ℕ → Written T
joining c xs used l r =
    picked (side c (constant_of (nodes xs l)) (constant_of (nodes xs r)))
    (written (struck (filter_at xs r) xs) used (Ok l))
    (written (struck (filter_at xs l) xs) used (Ok r))
    (roomy xs used (full xs used) (laid (marked r Joined (marked l Joined xs)) used (join c l r)))

unfoldable pub join_after : {T : Type 0} → Connective → Setting T → Tables T → ℕ → ℕ → After T
join_after c s b l r = outcome b (barred_two s b l r) (writing b (joining c b.slots b.used l r))

unfoldable pub negate_after : {T : Type 0} → Setting T → Tables T → ℕ → After T
negate_after s b a =
    let p = filter_at b.slots a in
    let n = root (negated_placed opposite p) in
    outcome b (barred_one s b a) (writing b (written (marked n Standing (negation p b.slots)) b.used (Ok n)))

-- joins folded or not
unfoldable pub rewrite_after : {T : Type 0} → Bool → Setting T → Tables T → ℕ → After T
rewrite_after folds s b a =
    let p = filter_at b.slots a in
    let n = root (rewritten_placed folds opposite p) in
    outcome b (barred_one s b a) (writing b (written (marked n Standing (rewriting folds p b.slots)) b.used (Ok n)))

abbrev pub performed : {T : Type 0} → Setting T → Asked T → Tables T → After T
performed s (lay_constant k) b = constant_after s b k
performed s (lay_unary o t) b = unary_after s b o t
performed s (lay_binary o t l) b = binary_after s b o t l
performed s (lay_set o t ls) b = set_after s b o t ls
performed s (ask_and l r) b = join_after C.And s b l r
performed s (ask_or l r) b = join_after C.Or s b l r
performed s (ask_not a) b = not_after s b a
performed s (ask_negate a) b = negate_after s b a
performed s (ask_rewrite a) b = rewrite_after true s b a
