-- Worked examples of values and of filters, each by the definitions alone.
use Rattle.std.specs.Prelude.{◌≡◌, ℕ, Bool, true, false, List, [], ◌∷◌, pos, negsuc, Some, None, Ok, Err, Float}
use Rattle.std.specs.declared.cmp.Ordering.TheVariants.{Less, Equal, Greater}
use Rattle.std.specs.Float.{nan, fin, binary64}
use Rattle.floats.specs.Patterns.{rank}
use Rattle.values.specs.declared.kinds.Kind.{Kind}
use Rattle.values.specs.declared.kinds.Kind.TheVariants as K
use Rattle.values.specs.Contents.{int, long, double, string, Content, number, bytes, above_max, below_min, Datum}
use Rattle.comparison.specs.Orders.{compared}
use Rattle.comparison.specs.Equality.{same_content}
use Rattle.conversion.specs.declared.convert.Misfit.TheVariants.{NotConvertible, TextNotRead}
use Rattle.conversion.specs.Table.{converted}
use Rattle.filters.specs.Trees.{Tree, constant, condition, And, Or, Not, negated, rewritten}
use Rattle.nodes.specs.declared.operators.PredicateOperator.TheVariants as O
use Rattle.nodes.specs.Conditions.{Condition, binary, opposite}

abbrev pub of : Kind → Content → Datum
of k c = record { kind = k; content = c }

abbrev pub double_of : Float → Datum
double_of x = of K.Double (number double (pos (rank binary64 x)))

abbrev pub zero : Bool → Float
zero s = fin s 0 (pos 0)

-- 5 as a double is 5 * 2 ^ 0
abbrev pub five : Float
five = fin false 5 (pos 0)

-- a condition on a column by its number, against a literal and sets of literals by theirs
abbrev pub Test : Type 0
Test = Condition ℕ ℕ (List ℕ)

pub record Weighings : Type 0 where
  -- long 2147483647 to int stays
  pub stays : converted (of K.Long (number long (pos 2147483647))) K.Int ≡ Ok (of K.Int (number int (pos 2147483647)))
  -- 2147483648 is above every int, -2147483649 below
  pub above : converted (of K.Long (number long (pos 2147483648))) K.Int ≡ Ok (of K.Int above_max)
  pub below : converted (of K.Long (number long (negsuc 2147483648))) K.Int ≡ Ok (of K.Int below_min)
  -- timestamp_ns 1999 to timestamp is 1; -1 stays -1
  pub nanos : converted (of K.TimestampNs (number long (pos 1999))) K.Timestamp ≡ Ok (of K.Timestamp (number long (pos 1)))
  pub nanos_below : converted (of K.TimestampNs (number long (negsuc 0))) K.Timestamp ≡ Ok (of K.Timestamp (number long (negsuc 0)))
  -- in {2147483648, 2147483649} on an int column has one literal left, for both become one value
  pub one_extreme : converted (of K.Long (number long (pos 2147483648))) K.Int ≡ converted (of K.Long (number long (pos 2147483649))) K.Int
  -- in {0.0, -0.0} keeps both literals
  pub zeros_differ : same_content (double_of (zero false)).content (double_of (zero true)).content ≡ false
  -- a row with -0.0 against 0.0: not equal, and less, so not at least
  pub zeros_ordered : compared (double_of (zero true)) (double_of (zero false)) ≡ Some Less
  -- not-a-number is above 5.0, and equal to itself
  pub nan_above : compared (double_of nan) (double_of five) ≡ Some Greater
  pub nan_itself : compared (double_of nan) (double_of nan) ≡ Some Equal
  -- a time is no timestamp; text is not read as a number
  pub time_refused : converted (of K.Time (number long (pos 5))) K.Timestamp ≡ Err NotConvertible
  pub text_refused : converted (of K.String (bytes string (49 ∷ []))) K.Int ≡ Err TextNotRead
  -- a shorter prefix comes first; values of two kinds do not compare
  pub prefix_first : compared (of K.String (bytes string (97 ∷ []))) (of K.String (bytes string (97 ∷ 98 ∷ []))) ≡ Some Less
  pub kinds_apart : compared (of K.Int (number int (pos 5))) (of K.Date (number int (pos 5))) ≡ None
  -- the negation of (not a) and v < 5 is a or v >= 5
  pub negated_join : (a : Tree Test) (v literal : ℕ) → negated opposite (And (Not a) (condition (binary O.LessThan v literal))) ≡ Or a (condition (binary O.GreaterThanOrEq v literal))
  -- the rewriting of (not AlwaysTrue) and a is AlwaysFalse
  pub rewritten_to_false : (a : Test) → rewritten true opposite (And (Not (constant true)) (condition a)) ≡ constant false
