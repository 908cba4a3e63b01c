-- The law over runs: what the book holds after every run, beside the ledger on paper.
use Rattle.std.specs.Prelude.{◌≡◌, ℕ, Bool, true, false, List, ◌∷◌, map, length, take, drop, None, Ok, slice_index_or}
use Rattle.std.proofs.Math.Option.{Option, some, none}
use Rattle.values.specs.declared.kinds.Kind.TheVariants as K
use Rattle.values.specs.declared.literals.Literal.{Literal}
use Rattle.values.specs.declared.literals.Value.TheVariants as V
use Rattle.values.specs.Contents.{datum_of}
use Rattle.filters.specs.Trees.{Tree, mapped, Each, NoNot, Lone}
use Rattle.filters.specs.Meanings.{Meaning, EvenHanded, Answered, walked}
use Rattle.filters.specs.Runs.{Turn, call_rewrite, after, paper, book}
use Rattle.filters.specs.Placed.{tree}
use Rattle.nodes.specs.Conditions.{opposite, reading}
use Rattle.nodes.specs.Tables.{Held, filter_at}
use Rattle.nodes.specs.Filters.{Whole}
use Rattle.nodes.specs.Soundness.{unsound, stands}
use Rattle.book.specs.Calls.{Tables, Setting}
use Rattle.book.specs.Law.{Worded, Ran}

abbrev pub through : {X Y : Type 0} → (X → Y) → Option X → Option Y
through f none = none
through f (some x) = some (f x)

abbrev pub entered : {X : Type 0} → Option X → Bool
entered none = false
entered (some x) = true

-- what stands past the literals' end
abbrev pub nothing : Literal
nothing = record { kind = K.Boolean; value = V.Boolean false }

-- a node's condition with its literals read from the tables
abbrev pub content : {T : Type 0} → List ℕ → List Literal → Held T → Worded T
content text ls = reading (λ t. t) (λ i. datum_of text (slice_index_or ls i nothing)) (λ r. map (datum_of text) (take r.count (drop r.start ls)))

-- the filter at a number of the tables, as a tree
abbrev pub filter_in : {T : Type 0} → Setting T → Tables T → ℕ → Tree (Worded T)
filter_in s b n = mapped (content s.text b.literals) (tree (filter_at b.slots n))

-- of a run that led to the tables, for meanings with answers in A and faults in F
pub record Lawful (A F : Type 0) {T : Type 0} (s : Setting T) (run : List (Turn (Worded T))) (b : Tables T) : Type 0 where
  -- the tables are sound
  pub sound : unsound s.within (length s.text) b.slots b.used b.literals b.stored ≡ None
  -- exactly the ledger's numbers are marked standing
  pub standing : (n : ℕ) → stands b.slots b.used n ≡ entered (after paper run n)
  -- the table holds the filter there whole: inputs below, no node under two
  pub whole : (n : ℕ) (wording : Tree (Worded T)) → after paper run n ≡ some wording → Whole b.slots n
  -- that filter is what the calls make of trees
  pub follows : (n : ℕ) (wording : Tree (Worded T)) → after paper run n ≡ some wording → after (book opposite) run n ≡ some (filter_in s b n)
  -- every even-handed meaning that faults on no condition of the wording gives the filter the answer that it gives the wording
  pub answers : (n : ℕ) (wording : Tree (Worded T)) → after paper run n ≡ some wording → (m : Meaning A F (Worded T)) → EvenHanded opposite m → Each (Answered m) wording → (x : A) × (walked m wording ≡ Ok x) × (walked m (filter_in s b n) ≡ Ok x)
  -- a filter just rewritten contains no Not, and a constant only if it is nothing else
  pub rewritten : (a n : ℕ) (ts : List (Turn (Worded T))) → run ≡ (record { call = call_rewrite a; answered = some n } ∷ ts) → NoNot (filter_in s b n) × Lone (filter_in s b n)

-- whatever run led to the tables
abbrev pub Law : (A F : Type 0) {T : Type 0} → Setting T → Tables T → Type 0
Law A F {T} s b = (run : List (Turn (Worded T))) → Ran s run b → Lawful A F s run b
