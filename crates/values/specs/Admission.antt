-- Which literals may be handed in.
use Rattle.std.specs.Prelude.{ℕ, ◌+◌, Bool, cond, List, [], ◌∷◌, Some, None, Ok, Err, Option, Result}
use Rattle.values.specs.declared.literals.Literal.{Literal}
use Rattle.values.specs.declared.refusals.Reason.{Reason}
use Rattle.values.specs.declared.refusals.Reason.TheVariants as R
use Rattle.values.specs.declared.refusals.Refused.{Refused}
use Rattle.values.specs.Contents.{text_inside}
use Rattle.values.specs.Kept.{well_kept}

-- the index of the first element that fails the test, the list's first having the index i
abbrev pub first_failing : {X : Type 0} → (X → Bool) → ℕ → List X → Option ℕ
first_failing p i [] = None
first_failing p i (x ∷ xs) = cond (p x) (first_failing p (i + 1) xs) (Some i)

abbrev pub refusal : Reason → ℕ → Result (Unit {0}) Refused
refusal r i = Err (record { reason = r; place = i })

abbrev pub unless : Option ℕ → Reason → Result (Unit {0}) Refused → Result (Unit {0}) Refused
unless None r next = next
unless (Some i) r next = refusal r i

-- every text is looked at before any storage
abbrev pub admitted : ℕ → List Literal → Result (Unit {0}) Refused
admitted n ls =
    unless (first_failing (λ l. text_inside n l.value) 0 ls) R.TextOutside
    (unless (first_failing well_kept 0 ls) R.OtherStorage (Ok tt))

-- an answer where the literals are admitted
abbrev pub if_admitted : {X : Type 0} → Result (Unit {0}) Refused → X → Result X Refused
if_admitted (Ok u) x = Ok x
if_admitted (Err e) x = Err e
