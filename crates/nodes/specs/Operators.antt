-- The operators: their numbers, families and opposites.
use Rattle.std.specs.Prelude.{ℕ, Bool, true, false}
use Rattle.nodes.specs.declared.operators.PredicateOperator.{PredicateOperator}
use Rattle.nodes.specs.declared.operators.PredicateOperator.TheVariants as O

abbrev pub number_of : PredicateOperator → ℕ
number_of O.IsNull = 101
number_of O.NotNull = 102
number_of O.IsNan = 103
number_of O.NotNan = 104
number_of O.LessThan = 201
number_of O.LessThanOrEq = 202
number_of O.GreaterThan = 203
number_of O.GreaterThanOrEq = 204
number_of O.Eq = 205
number_of O.NotEq = 206
number_of O.StartsWith = 207
number_of O.NotStartsWith = 208
number_of O.In = 301
number_of O.NotIn = 302

pub data Family : Type 0 where
  unary binary set : Family

abbrev pub family_of : PredicateOperator → Family
family_of O.IsNull = unary
family_of O.NotNull = unary
family_of O.IsNan = unary
family_of O.NotNan = unary
family_of O.LessThan = binary
family_of O.LessThanOrEq = binary
family_of O.GreaterThan = binary
family_of O.GreaterThanOrEq = binary
family_of O.Eq = binary
family_of O.NotEq = binary
family_of O.StartsWith = binary
family_of O.NotStartsWith = binary
family_of O.In = set
family_of O.NotIn = set

abbrev pub in_unary : Family → Bool
in_unary unary = true
in_unary binary = false
in_unary set = false

abbrev pub in_binary : Family → Bool
in_binary unary = false
in_binary binary = true
in_binary set = false

abbrev pub in_set : Family → Bool
in_set unary = false
in_set binary = false
in_set set = true

abbrev pub is_unary : PredicateOperator → Bool
is_unary o = in_unary (family_of o)

abbrev pub is_binary : PredicateOperator → Bool
is_binary o = in_binary (family_of o)

abbrev pub is_set : PredicateOperator → Bool
is_set o = in_set (family_of o)

-- the operator that says the opposite
abbrev pub inverse : PredicateOperator → PredicateOperator
inverse O.IsNull = O.NotNull
inverse O.NotNull = O.IsNull
inverse O.IsNan = O.NotNan
inverse O.NotNan = O.IsNan
inverse O.LessThan = O.GreaterThanOrEq
inverse O.LessThanOrEq = O.GreaterThan
inverse O.GreaterThan = O.LessThanOrEq
inverse O.GreaterThanOrEq = O.LessThan
inverse O.Eq = O.NotEq
inverse O.NotEq = O.Eq
inverse O.StartsWith = O.NotStartsWith
inverse O.NotStartsWith = O.StartsWith
inverse O.In = O.NotIn
inverse O.NotIn = O.In
