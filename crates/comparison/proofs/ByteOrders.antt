-- The library's order of bytes goes by the first difference.
use Rattle.std.proofs.Common.{◌≡◌, ℕ, List, [], ◌∷◌, refl, arith}
use Rattle.std.proofs.lemmas.Bool.Decides.{nat_tests}
use Rattle.std.specs.Cmp.Lexicographic.{slice_cmp}
use Rattle.std.specs.Ordering.{nat_cmp}
use Rattle.comparison.specs.Orders.{byte_order}

pub first_difference : (xs ys : List ℕ) → slice_cmp nat_cmp xs ys ≡ byte_order xs ys
first_difference [] [] = refl
first_difference [] (y ∷ ys) = refl
first_difference (x ∷ xs) [] = refl
first_difference (x ∷ xs) (y ∷ ys) = let h = first_difference xs ys in grind (arith, nat_tests)
