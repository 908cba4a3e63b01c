-- Runs of calls on a book, and the wordings that they feed the ledger with.
use Rattle.std.specs.Prelude.{◌≡◌, ℕ, List, [], ◌∷◌, map, Ok, Err, Result}
use Rattle.std.proofs.Math.Option.{Option as Maybe, some, none}
use Rattle.values.specs.declared.refusals.Refused.{Refused}
use Rattle.values.specs.Contents.{Datum, datum_of}
use Rattle.lists.specs.Keep.{kept}
use Rattle.filters.specs.Trees.{constant, condition}
use Rattle.filters.specs.Runs.{Call, lay, call_and, call_or, call_not, call_negate, call_rewrite, call_bind, Turn}
use Rattle.nodes.specs.Conditions.{Condition, unary, binary, among}
use Rattle.book.specs.Equality.{same_literal}
use Rattle.book.specs.Calls.{Tables, Setting, Asked, lay_constant, lay_unary, lay_binary, lay_set, ask_and, ask_or, ask_not, ask_negate, ask_rewrite, after, performed}

-- a condition of a wording: its literals by what they hold, not by where their text lies
abbrev pub Worded : Type 0 → Type 0
Worded T = Condition T Datum (List Datum)

-- what the ledger is told of a call
abbrev pub told : {T : Type 0} → List ℕ → Asked T → Call (Worded T)
told text (lay_constant k) = lay (constant k)
told text (lay_unary o t) = lay (condition (unary o t))
told text (lay_binary o t l) = lay (condition (binary o t (datum_of text l)))
told text (lay_set o t ls) = lay (condition (among o t (map (datum_of text) (kept (same_literal text) ls))))
told text (ask_and l r) = call_and l r
told text (ask_or l r) = call_or l r
told text (ask_not a) = call_not a
told text (ask_negate a) = call_negate a
told text (ask_rewrite a) = call_rewrite a

-- the number answered, if the call was granted
abbrev pub answered : Result ℕ Refused → Maybe ℕ
answered (Ok n) = some n
answered (Err e) = none

abbrev pub turn : {T : Type 0} → List ℕ → Asked T → Result ℕ Refused → Turn (Worded T)
turn text asked answer = record { call = told text asked; answered = answered answer }

-- What the tables may be after a run from an empty book, the newest turn first. Each step leaves and answers what its
-- call does; binding, granted or refused, leaves the tables alone; the text is one throughout.
pub data Ran {T : Type 0} (s : Setting T) : List (Turn (Worded T)) → Tables T → Type 0 where
  opened : (b : Tables T) → b.used ≡ 0 → b.stored ≡ 0 → Ran s [] b
  called : {ts : List (Turn (Worded T))} {b : Tables T} (asked : Asked T) (b' : Tables T) (answer : Result ℕ Refused) → Ran s ts b → after b' answer ≡ performed s asked b → Ran s (turn s.text asked answer ∷ ts) b'
  bound : {ts : List (Turn (Worded T))} {b : Tables T} (a : ℕ) (reply : Maybe ℕ) → Ran s ts b → Ran s (record { call = call_bind a; answered = reply } ∷ ts) b

-- whatever run led to the tables, this call carries it on
abbrev pub Carries : {T : Type 0} → Setting T → Asked T → Tables T → Tables T → Result ℕ Refused → Type 0
Carries {T} s asked b b' answer = (ts : List (Turn (Worded T))) → Ran s ts b → Ran s (turn s.text asked answer ∷ ts) b'
