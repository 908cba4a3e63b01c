-- What each operator answers of the value found.
use Rattle.std.specs.Prelude.{Bool, false, not, List, [], ◌∷◌, ℤ, pos, Some, None, Option, ◌==◌, is_none, option_map}
use Rattle.std.specs.declared.cmp.Ordering.{Ordering}
use Rattle.std.specs.declared.cmp.Ordering.TheVariants.{Less, Greater}
use Rattle.std.specs.Float.{nan, binary32, binary64}
use Rattle.std.specs.List.{list_any, starts_with}
use Rattle.std.specs.Ordering.{is_lt, is_le, is_gt, is_ge}
use Rattle.floats.specs.Patterns.{rank}
use Rattle.values.specs.Contents.{Numeric, boolean, int, long, float, double, string, Content, number, bytes, above_max, below_min, Datum}
use Rattle.nodes.specs.declared.operators.PredicateOperator.{PredicateOperator}
use Rattle.nodes.specs.declared.operators.PredicateOperator.TheVariants as O
use Rattle.comparison.specs.Equality.{same_number, same_datum}
use Rattle.comparison.specs.Orders.{compared}
use Rattle.judges.specs.declared.verdicts.Verdict.{Verdict}
use Rattle.judges.specs.Verdicts.{sure, known}

-- the not-a-number of a storage, by its place among the bit patterns
abbrev pub is_nan_in : Numeric → ℤ → Bool
is_nan_in boolean n = false
is_nan_in int n = false
is_nan_in long n = false
is_nan_in float n = same_number n (pos (rank binary32 nan))
is_nan_in double n = same_number n (pos (rank binary64 nan))

abbrev pub is_nan_content : Content → Bool
is_nan_content (number s n) = is_nan_in s n
is_nan_content c = false

-- two strings, the second of them at the first one's beginning
abbrev pub begins_with : Content → Content → Bool
begins_with (bytes string a) (bytes string b) = starts_with (λ x y. x == y) a b
begins_with a b = false

-- whether a value was found of which it is true
abbrev pub of_value : (Datum → Bool) → Option Datum → Bool
of_value holds None = false
of_value holds (Some v) = holds v

abbrev pub found_nan : Option Datum → Bool
found_nan v = of_value (λ d. is_nan_content d.content) v

abbrev pub found_one_of : List Datum → Option Datum → Bool
found_one_of ls v = of_value (λ d. list_any (λ l. same_datum d l) ls) v

abbrev pub found_beginning : List Datum → Option Datum → Bool
found_beginning [] v = false
found_beginning (l ∷ ls) v = of_value (λ d. begins_with d.content l.content) v

-- where the value stands to the literal, if one was found and the two compare
abbrev pub stands : Option Datum → List Datum → Option Ordering
stands None ls = None
stands (Some v) [] = None
stands (Some v) (l ∷ ls) = compared v l

-- an extreme stands beyond every value, and beyond an absent one
abbrev pub beyond : Content → Option Ordering → Option Ordering
beyond above_max o = Some Less
beyond below_min o = Some Greater
beyond c o = o

abbrev pub stands_or_beyond : Option Datum → List Datum → Option Ordering
stands_or_beyond v [] = None
stands_or_beyond v (l ∷ ls) = beyond l.content (stands v (l ∷ ls))

-- an operator's answer, from where the value stands to the literal, the value, and the literals
abbrev pub answer : PredicateOperator → Option Ordering → Option Datum → List Datum → Verdict
answer O.IsNull o v ls = sure (is_none v)
answer O.NotNull o v ls = sure (not (is_none v))
answer O.IsNan o v ls = sure (found_nan v)
answer O.NotNan o v ls = sure (not (found_nan v))
answer O.LessThan o v ls = known (option_map is_lt o)
answer O.LessThanOrEq o v ls = known (option_map is_le o)
answer O.GreaterThan o v ls = known (option_map is_gt o)
answer O.GreaterThanOrEq o v ls = known (option_map is_ge o)
answer O.Eq o v ls = sure (found_one_of ls v)
answer O.NotEq o v ls = sure (not (found_one_of ls v))
answer O.StartsWith o v ls = sure (found_beginning ls v)
answer O.NotStartsWith o v ls = sure (not (found_beginning ls v))
answer O.In o v ls = sure (found_one_of ls v)
answer O.NotIn o v ls = sure (not (found_one_of ls v))
