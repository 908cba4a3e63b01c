-- What a visitor's fault is refused for.
use Rattle.std.specs.Prelude.{ℕ, Ok, Err, Result}
use Rattle.values.specs.declared.refusals.Reason.{Reason}
use Rattle.values.specs.declared.refusals.Reason.TheVariants as R
use Rattle.values.specs.declared.refusals.Refused.{Refused}
use Rattle.walk.specs.declared.faults.Fault.{Fault}
use Rattle.walk.specs.declared.faults.Fault.TheVariants as F

abbrev pub reason_of : Fault → Reason
reason_of F.PlacePastGroup = R.PlacePastGroup
reason_of F.NoGroup = R.NoGroup
reason_of F.NoValue = R.NoValue
reason_of F.OutsideRow = R.OutsideRow
reason_of F.NotMet = R.NotMet
reason_of (F.Own n) = R.VisitorFault n

-- an answer, or the fault refused at the node that it is met at
abbrev pub at_node : {A : Type 0} → ℕ → Result A Fault → Result A Refused
at_node n (Ok x) = Ok x
at_node n (Err f) = Err (record { reason = reason_of f; place = n })
