-- An operator's opposite is of its family.
use Rattle.std.proofs.Common.{◌≡◌, true, refl, ap, ◌∙◌}
use Rattle.nodes.specs.declared.operators.PredicateOperator.{PredicateOperator}
use Rattle.nodes.specs.declared.operators.PredicateOperator.TheVariants as O
use Rattle.nodes.specs.Operators.{family_of, in_unary, in_binary, in_set, is_unary, is_binary, is_set, inverse}

same_family : (o : PredicateOperator) → family_of (inverse o) ≡ family_of o
same_family O.IsNull = refl
same_family O.NotNull = refl
same_family O.IsNan = refl
same_family O.NotNan = refl
same_family O.LessThan = refl
same_family O.LessThanOrEq = refl
same_family O.GreaterThan = refl
same_family O.GreaterThanOrEq = refl
same_family O.Eq = refl
same_family O.NotEq = refl
same_family O.StartsWith = refl
same_family O.NotStartsWith = refl
same_family O.In = refl
same_family O.NotIn = refl

pub unary_turned : (o : PredicateOperator) → is_unary o ≡ true → is_unary (inverse o) ≡ true
unary_turned o h = ap in_unary (same_family o) ∙ h

pub binary_turned : (o : PredicateOperator) → is_binary o ≡ true → is_binary (inverse o) ≡ true
binary_turned o h = ap in_binary (same_family o) ∙ h

pub set_turned : (o : PredicateOperator) → is_set o ≡ true → is_set (inverse o) ≡ true
set_turned o h = ap in_set (same_family o) ∙ h
