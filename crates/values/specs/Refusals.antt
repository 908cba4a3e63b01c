-- The numbers of the refusals.
use Rattle.std.specs.Prelude.{ℕ}
use Rattle.values.specs.declared.refusals.Reason.{Reason}
use Rattle.values.specs.declared.refusals.Reason.TheVariants as R

abbrev pub number_of : Reason → ℕ
number_of R.NoFilter = 1
number_of R.SameFilter = 2
number_of R.OtherFamily = 3
number_of R.OtherStorage = 4
number_of R.TextOutside = 5
number_of R.NameNotFound = 6
number_of R.NameAmbiguous = 7
number_of R.NoAccessor = 8
number_of R.NotFloating = 9
number_of (R.NotConvertible i) = 10
number_of (R.TextNotRead i) = 11
number_of R.NoNodeLeft = 12
number_of R.LiteralsDontFit = 13
number_of R.BoundTablesTooSmall = 14
number_of R.WorkingTableTooShort = 15
number_of R.UnsoundTables = 16
number_of R.SchemaRuleBroken = 17
number_of R.PlacePastGroup = 18
number_of R.NoGroup = 19
number_of R.NoValue = 20
number_of R.OutsideRow = 21
number_of R.NotMet = 22
number_of (R.VisitorFault n) = 23
