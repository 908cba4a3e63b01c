-- Elements picked by their places.
use Rattle.std.specs.Prelude.{◌≡◌, ℕ, ◌<◌, ◌≤◌, Bool, false, List, [], ◌∷◌, length, take, Some, None, Option}
use Rattle.std.specs.List.{slice_get}
use Rattle.lists.specs.Keep.{kept}

abbrev pub both_pass : {X : Type 0} → (X → X → Bool) → Option X → Option X → Bool
both_pass p (Some x) (Some y) = p x y
both_pass p (Some x) None = false
both_pass p None y = false

-- two places, tested as the elements there
abbrev pub alike : {X : Type 0} → (X → X → Bool) → List X → ℕ → ℕ → Bool
alike p xs i j = both_pass p (slice_get xs i) (slice_get xs j)

abbrev pub before : {X : Type 0} → Option X → List X → List X
before None ys = ys
before (Some y) ys = y ∷ ys

-- the elements at the places picked
abbrev pub chosen : {X : Type 0} → List X → List ℕ → List X
chosen xs [] = []
chosen xs (i ∷ is) = before (slice_get xs i) (chosen xs is)

-- each place lies below n
abbrev pub Below : ℕ → List ℕ → Type 0
Below n [] = Unit {0}
Below n (i ∷ is) = (i < n) × Below n is

-- the first of the places picked are those of the elements kept, unless these are too many
abbrev pub Picked : {X : Type 0} → (X → X → Bool) → List X → List ℕ → Option ℕ → Type 0
Picked p xs picks None = length picks < length (kept p xs)
Picked p xs picks (Some n) = (n ≤ length picks) × Below (length xs) (take n picks) × (chosen xs (take n picks) ≡ kept p xs)
