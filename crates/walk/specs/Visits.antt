-- What a walk over a filter answers, and when it is refused.
use Rattle.std.specs.Prelude.{◌≡◌, ℕ, suc, ◌+◌, List, Some, None, Ok, Err, Option, Result, nat_le}
use Rattle.values.specs.declared.refusals.Reason.TheVariants as R
use Rattle.values.specs.declared.refusals.Refused.{Refused}
use Rattle.filters.specs.Trees.{Tree, mapped}
use Rattle.filters.specs.Meanings.{Meaning, then, walked}
use Rattle.filters.specs.Placed.{Placed, constant_at, condition_at, and_node_at, or_node_at, not_node_at, In, tree}
use Rattle.nodes.specs.Tables.{filter_at}
use Rattle.columns.specs.declared.column.Column.{Column}
use Rattle.book.specs.Calls.{Tables, Setting, else, unless, barred, no_filter}
use Rattle.walk.specs.declared.faults.Fault.{Fault}
use Rattle.walk.specs.Faults.{reason_of, at_node}
use Rattle.walk.specs.Tests.{Tested, content}

-- a filter walked as its tree is, left, right, then the join, the first fault refused at its node
abbrev pub visited : {A C X : Type 0} → Meaning A Fault C → (X → C) → Placed X → Result A Refused
visited m read (constant_at n b) = at_node n (m.always b)
visited m read (condition_at n c) = at_node n (m.on (read c))
visited m read (and_node_at n l r) = then (visited m read l) (λ x. then (visited m read r) (λ y. at_node n (m.both x y)))
visited m read (or_node_at n l r) = then (visited m read l) (λ x. then (visited m read r) (λ y. at_node n (m.either x y)))
visited m read (not_node_at n p) = then (visited m read p) (λ x. at_node n (m.other x))

-- how many nodes a filter has
abbrev pub size : {X : Type 0} → Placed X → ℕ
size (constant_at n b) = 1
size (condition_at n c) = 1
size (and_node_at n l r) = suc (size l + size r)
size (or_node_at n l r) = suc (size l + size r)
size (not_node_at n p) = suc (size p)

-- unsound tables; then a filter that does not stand; then a working table shorter than the filter has nodes
abbrev pub barred_walk : Setting Column → Tables Column → ℕ → ℕ → Option Refused
barred_walk s b n room = else (barred s b) (else (no_filter b n) (unless (nat_le (size (filter_at b.slots n)) room) R.WorkingTableTooShort 0))

abbrev pub unless_barred : {A : Type 0} → Option Refused → Result A Refused → Result A Refused
unless_barred (Some e) r = Err e
unless_barred None r = r

-- the walk over the filter at n, with a working table of so many frames
abbrev pub walk_of : {A : Type 0} → Meaning A Fault Tested → List ℕ → Setting Column → Tables Column → ℕ → ℕ → Result A Refused
walk_of m places s b n room = unless_barred (barred_walk s b n room) (visited m (content places s.text b.literals) (filter_at b.slots n))

-- the filter at n as a tree, its conditions apart from where their parts lie
abbrev pub filter_in : List ℕ → Setting Column → Tables Column → ℕ → Tree Tested
filter_in places s b n = mapped (content places s.text b.literals) (tree (filter_at b.slots n))

-- an answer is the tree's, and a refusal stands for its fault, at one of the filter's nodes
abbrev pub Tells : {A X : Type 0} → Placed X → Result A Fault → Result A Refused → Type 0
Tells p w (Ok x) = w ≡ Ok x
Tells p w (Err e) = (f : Fault) × (w ≡ Err f) × (e.reason ≡ reason_of f) × In e.place p

-- where nothing bars the walk, it tells what the tree means
abbrev pub TellsWhatIsMeant : {A : Type 0} → Meaning A Fault Tested → List ℕ → Setting Column → Tables Column → ℕ → ℕ → Result A Refused → Type 0
TellsWhatIsMeant m places s b n room r = barred_walk s b n room ≡ None → Tells (filter_at b.slots n) (walked m (filter_in places s b n)) r
