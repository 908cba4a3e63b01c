-- What a condition finds in a row, at its column.
use Rattle.std.specs.Prelude.{◌∷◌, [], List, Some, None, Ok, Err, Option, Result, option_map}
use Rattle.values.specs.declared.kinds.Kind.{Kind}
use Rattle.values.specs.declared.refusals.Reason.{Reason}
use Rattle.values.specs.declared.refusals.Reason.TheVariants as R
use Rattle.values.specs.Refusals.{number_of}
use Rattle.values.specs.Contents.{Datum, datum_of}
use Rattle.nodes.specs.declared.operators.PredicateOperator.{PredicateOperator}
use Rattle.nodes.specs.Conditions.{unary, binary, among}
use Rattle.columns.specs.Bound.{Bound}
use Rattle.rows.specs.Reached.{RowFunction, Reached, absent, found, refused}
use Rattle.walk.specs.declared.faults.Fault.{Fault}
use Rattle.walk.specs.declared.faults.Fault.TheVariants as F
use Rattle.walk.specs.Tests.{Tested}
use Rattle.judges.specs.declared.found.Found.{Found}

-- a row's refusal; one that no row has to give goes by its number
abbrev pub fault_of : Reason → Fault
fault_of R.PlacePastGroup = F.PlacePastGroup
fault_of R.NoGroup = F.NoGroup
fault_of R.NoValue = F.NoValue
fault_of R.OutsideRow = F.OutsideRow
fault_of r = F.Own (number_of r)

-- absent, or the value under the kind that it was asked under
abbrev pub value_of : Kind → Reached → Result (Option Datum) Fault
value_of k absent = Ok None
value_of k (found x) = Ok (Some (record { kind = k; content = x }))
value_of k (refused r) = Err (fault_of r)

-- what the row holds in the column
abbrev pub value_at : RowFunction → Bound → Result (Option Datum) Fault
value_at row b = value_of b.kind (row b.places b.kind)

-- a condition's operator, its column, and its literals in a list
abbrev pub operator : Tested → PredicateOperator
operator (unary o b) = o
operator (binary o b l) = o
operator (among o b ls) = o

abbrev pub column : Tested → Bound
column (unary o b) = b
column (binary o b l) = b
column (among o b ls) = b

abbrev pub literals : Tested → List Datum
literals (unary o b) = []
literals (binary o b l) = l ∷ []
literals (among o b ls) = ls

-- the value that was found, apart from where its text lies
abbrev pub held : Found → Option Datum
held f = option_map (datum_of f.text.now) f.literal

-- the same, where nothing was refused
abbrev pub held_if : Result Found Fault → Result (Option Datum) Fault
held_if (Ok f) = Ok (held f)
held_if (Err e) = Err e
