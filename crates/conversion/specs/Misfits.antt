-- Why a literal does not convert, and what a conversion's answer says.
use Rattle.std.specs.Prelude.{ℕ, List, Ok, Err, Result}
use Rattle.values.specs.declared.literals.Literal.{Literal}
use Rattle.values.specs.declared.refusals.Refused.{Refused}
use Rattle.values.specs.declared.refusals.Reason.{Reason}
use Rattle.values.specs.declared.refusals.Reason.TheVariants as R
use Rattle.values.specs.Contents.{Datum, datum_of}
use Rattle.conversion.specs.declared.convert.Misfit.{Misfit}
use Rattle.conversion.specs.declared.convert.Misfit.TheVariants.{NotConvertible, TextNotRead}

-- the refusal of a filter whose literal of this index does not convert
abbrev pub reason_of : Misfit → ℕ → Reason
reason_of NotConvertible i = R.NotConvertible i
reason_of TextNotRead i = R.TextNotRead i

-- an answer with its text spelled out
abbrev pub read : List ℕ → Result Literal Misfit → Result Datum Misfit
read t (Ok l) = Ok (datum_of t l)
read t (Err m) = Err m

-- the same of an answer that may be a refusal
abbrev pub read_answer : List ℕ → Result Literal Refused → Result Datum Refused
read_answer t (Ok l) = Ok (datum_of t l)
read_answer t (Err e) = Err e

-- a misfit of the only literal
abbrev pub alone : Result Datum Misfit → Result Datum Refused
alone (Ok d) = Ok d
alone (Err m) = Err (record { reason = reason_of m 0; place = 0 })

-- a refusal of the literal as it stands comes before one of its conversion
abbrev pub answer : Result (Unit {0}) Refused → Result Datum Misfit → Result Datum Refused
answer (Ok u) c = alone c
answer (Err e) c = Err e
