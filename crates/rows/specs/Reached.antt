-- What an accessor reaches in a row, however the row is made.
use Rattle.std.specs.Prelude.{ℕ, Bool, true, false, List, Some, None, Ok, Err, Option, Result}
use Rattle.values.specs.declared.kinds.Kind.{Kind}
use Rattle.values.specs.declared.literals.Literal.{Literal}
use Rattle.values.specs.declared.refusals.Reason.{Reason}
use Rattle.values.specs.Contents.{Content, number, bytes, above_max, below_min, content_of}

pub data Reached : Type 0 where
  absent : Reached
  found : Content → Reached
  refused : Reason → Reached

-- a row to those who ask it: from an accessor, its places and its kind, to what is reached
abbrev pub RowFunction : Type 0
RowFunction = List ℕ → Kind → Reached

-- an answer, its text read from the row's own
abbrev pub said : List ℕ → Result (Option Literal) Reason → Reached
said t (Ok None) = absent
said t (Ok (Some l)) = found (content_of t l.value)
said t (Err e) = refused e

-- what holds of the literal, if one is found
abbrev pub IfFound : Result (Option Literal) Reason → (Literal → Type 0) → Type 0
IfFound (Ok None) P = Unit {0}
IfFound (Ok (Some l)) P = P l
IfFound (Err e) P = Unit {0}

abbrev pub is_extreme : Content → Bool
is_extreme (number s n) = false
is_extreme (bytes s b) = false
is_extreme above_max = true
is_extreme below_min = true
