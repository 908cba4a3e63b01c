-- Lookups by full name.
use Rattle.std.specs.Prelude.{◌≡◌, ℕ, zero, suc, ◌<◌, Bool, cond, ◌⊎◌, List, [], ◌∷◌, ◌++◌, length, Ok, Err, Result, ◌≢◌}
use Rattle.std.specs.Str.{bytes_eq}
use Rattle.values.specs.declared.refusals.Reason.{Reason}
use Rattle.values.specs.declared.refusals.Reason.TheVariants.{NameNotFound, NameAmbiguous}
use Rattle.schema.specs.declared.fields.Field.{Field}
use Rattle.schema.specs.declared.names.Case.{Case}
use Rattle.schema.specs.declared.names.Case.TheVariants.{Insensitive}
use Rattle.schema.specs.Names.{full_name, spelled}

-- a field has the name, spelled as the case has it
abbrev pub is_named : Case → List Field → List ℕ → List ℕ → ℕ → Bool
is_named c fs t name i = bytes_eq (spelled c (full_name fs t i)) (spelled c name)

-- the numbers below n that pass, in their order
abbrev pub hits : (ℕ → Bool) → ℕ → List ℕ
hits p zero = []
hits p (suc n) = hits p n ++ cond (p n) (n ∷ []) []

-- the fields of a name
abbrev pub named : Case → List Field → List ℕ → List ℕ → List ℕ
named c fs t name = hits (is_named c fs t name) (length fs)

abbrev pub first_of : List ℕ → Result ℕ Reason
first_of [] = Err NameNotFound
first_of (i ∷ is) = Ok i

abbrev pub only_of : List ℕ → Result ℕ Reason
only_of [] = Err NameNotFound
only_of (i ∷ []) = Ok i
only_of (i ∷ (j ∷ is)) = Err NameAmbiguous

-- the answer's field has the name, or none has it
abbrev pub Named : List Field → List ℕ → List ℕ → Result ℕ Reason → Type 0
Named fs t name (Ok i) = (i < length fs) × (full_name fs t i ≡ name)
Named fs t name (Err e) = (e ≡ NameNotFound) × ((j : ℕ) → j < length fs → full_name fs t j ≢ name)

-- two names are one, but for the case of letters
abbrev pub Lowered : List ℕ → List ℕ → Type 0
Lowered m n = spelled Insensitive m ≡ spelled Insensitive n

-- the answer's field alone has the name, or none has it, or two have
abbrev pub NamedOnce : List Field → List ℕ → List ℕ → Result ℕ Reason → Type 0
NamedOnce fs t name (Ok i) = (i < length fs) × Lowered (full_name fs t i) name × ((j : ℕ) → j < length fs → Lowered (full_name fs t j) name → j ≡ i)
NamedOnce fs t name (Err e) =
    ((e ≡ NameNotFound) × ((j : ℕ) → j < length fs → Lowered (full_name fs t j) name → ⊥))
    ⊎ ((e ≡ NameAmbiguous) × ((i : ℕ) × (j : ℕ) × (i < j) × (j < length fs) × Lowered (full_name fs t i) name × Lowered (full_name fs t j) name))
