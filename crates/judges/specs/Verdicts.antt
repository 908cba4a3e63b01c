-- Three answers: true, false, and unknown.
use Rattle.std.specs.Prelude.{Bool, true, false, Some, None, Option}
use Rattle.judges.specs.declared.verdicts.Verdict.{Verdict}
use Rattle.judges.specs.declared.verdicts.Verdict.TheVariants.{True, False, Unknown}

abbrev pub sure : Bool → Verdict
sure true = True
sure false = False

-- unknown where there is no answer
abbrev pub known : Option Bool → Verdict
known (Some b) = sure b
known None = Unknown

abbrev pub is_true : Verdict → Bool
is_true True = true
is_true False = false
is_true Unknown = false

-- Not: unknown stays, the other two are exchanged
abbrev pub turned : Verdict → Verdict
turned True = False
turned False = True
turned Unknown = Unknown

-- And: false if a side is, true if both are, else unknown
abbrev pub both : Verdict → Verdict → Verdict
both True y = y
both False y = False
both Unknown True = Unknown
both Unknown False = False
both Unknown Unknown = Unknown

-- Or: true if a side is, false if both are, else unknown
abbrev pub either : Verdict → Verdict → Verdict
either True y = True
either False y = y
either Unknown True = True
either Unknown False = Unknown
either Unknown Unknown = Unknown
