-- What keeping the first means, in words of the test.
use Rattle.std.specs.Prelude.{◌≡◌, Bool, false, cond, List, [], ◌∷◌, ◌++◌}
use Rattle.lists.specs.Keep.{against}

abbrev pub Each : {X : Type 0} → (X → Type 0) → List X → Type 0
Each P [] = Unit {0}
Each P (x ∷ xs) = P x × Each P xs

-- no element passes against an earlier one
abbrev pub Distinct : {X : Type 0} → (X → X → Bool) → List X → Type 0
Distinct p [] = Unit {0}
Distinct p (x ∷ xs) = Each (λ y. p x y ≡ false) xs × Distinct p xs

-- those that pass against none of all that came before, kept or not
abbrev pub firsts_after : {X : Type 0} → (X → X → Bool) → List X → List X → List X
firsts_after p seen [] = []
firsts_after p seen (x ∷ xs) = cond (against p seen x) (firsts_after p (seen ++ (x ∷ [])) xs) (x ∷ firsts_after p (seen ++ (x ∷ [])) xs)

abbrev pub firsts : {X : Type 0} → (X → X → Bool) → List X → List X
firsts p xs = firsts_after p [] xs
