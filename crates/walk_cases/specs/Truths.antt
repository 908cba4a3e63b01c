-- What the visitor of the cases means: a truth for three operators, a fault for every other.
use Rattle.std.specs.Prelude.{ℕ, Bool, true, false, not, ◌&&◌, ◌||◌, length, Ok, Err, Result, ◌==◌}
use Rattle.filters.specs.Meanings.{Meaning}
use Rattle.nodes.specs.declared.operators.PredicateOperator.{PredicateOperator}
use Rattle.nodes.specs.declared.operators.PredicateOperator.TheVariants as O
use Rattle.nodes.specs.Conditions.{unary, binary, among}
use Rattle.walk.specs.declared.faults.Fault.{Fault}
use Rattle.walk.specs.declared.faults.Fault.TheVariants as F
use Rattle.walk.specs.Tests.{Tested}

-- is-nan faults by the field's number
abbrev pub told : PredicateOperator → ℕ → Result Bool Fault
told O.IsNull n = Ok false
told O.NotNull n = Ok true
told O.IsNan n = Err (F.Own n)
told o n = Err F.NotMet

-- a set's answer is whether it has two literals
abbrev pub asked : Tested → Result Bool Fault
asked (unary o b) = told o b.field
asked (binary o b d) = Err F.NoValue
asked (among o b ds) = Ok (length ds == 2)

abbrev pub truths : Meaning Bool Fault Tested
truths = record {
  always = Ok;
  on = asked;
  both = λ x y. Ok (x && y);
  either = λ x y. Ok (x || y);
  other = λ x. Ok (not x);
}
