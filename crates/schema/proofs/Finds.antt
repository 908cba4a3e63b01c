-- What a lookup finds, in words of full names.
use Rattle.std.proofs.Common.{◌≡◌, ℕ, ◌<◌, true, List, [], ◌∷◌, length, Ok, Err, Result, sym, refl, ◌∙◌, inl, inr, ⊎_elim}
use Rattle.std.proofs.lemmas.Slice.Eq.{bytes_eq-Decides}
use Rattle.std.proofs.lemmas.Bool.{cases_order}
use Rattle.values.specs.declared.refusals.Reason.{Reason}
use Rattle.schema.specs.declared.fields.Field.{Field}
use Rattle.schema.specs.declared.names.Case.{Case}
use Rattle.schema.specs.declared.names.Case.TheVariants.{Sensitive, Insensitive}
use Rattle.schema.specs.Names.{full_name, spelled}
use Rattle.schema.specs.Lookups.{is_named, named, first_of, only_of, Named, NamedOnce}
use Rattle.schema.specs.Rules.{Sound}
use Rattle.schema.specs.Theorems.{UniqueNames}
use Rattle.schema.proofs.Hits.{first_hit, two_hits, hits_none, hits_one}

has_name : (c : Case) (fs : List Field) (t name : List ℕ) (i : ℕ) → is_named c fs t name i ≡ true → spelled c (full_name fs t i) ≡ spelled c name
has_name c fs t name i e = (bytes_eq-Decides (spelled c (full_name fs t i)) (spelled c name)).0 e

is_name : (c : Case) (fs : List Field) (t name : List ℕ) (i : ℕ) → spelled c (full_name fs t i) ≡ spelled c name → is_named c fs t name i ≡ true
is_name c fs t name i e = (bytes_eq-Decides (spelled c (full_name fs t i)) (spelled c name)).1 e

pub first_named : (fs : List Field) (t name : List ℕ) (r : Result ℕ Reason) → r ≡ first_of (named Sensitive fs t name) → Named fs t name r
first_named fs t name r e = go (named Sensitive fs t name) refl e
  where
    go : (is : List ℕ) → named Sensitive fs t name ≡ is → r ≡ first_of is → Named fs t name r
    go [] n f = rw f (refl, λ j h s. hits_none (is_named Sensitive fs t name) (length fs) j n h (is_name Sensitive fs t name j s))
    go (i ∷ is) n f =
        let first = first_hit (is_named Sensitive fs t name) (length fs) i is n in
        rw f (first.0, has_name Sensitive fs t name i first.1)

-- what no earlier field has is unique
unique : {X : Type 0} (f : ℕ → X) (n : ℕ) → ((i : ℕ) → i < n → (j : ℕ) → j < i → f j ≡ f i → ⊥) → (i j : ℕ) → i < n → j < n → f i ≡ f j → i ≡ j
unique f n new i j h k e =
    ⊎_elim (λ (s : i ≡ j). s)
    (⊎_elim
    (λ (l : i < j). absurd (new j k i l e))
    (λ (l : j < i). absurd (new i h j l (sym e))))
    (cases_order i j)

unique_names : (fs : List Field) (t : List ℕ) → Sound fs t → UniqueNames fs t
unique_names fs t sound = unique (full_name fs t) (length fs) (λ i h. (sound i h).full)

-- so the field of a name is the only one
pub found_only : (fs : List Field) (t name : List ℕ) (r : Result ℕ Reason) → Named fs t name r → (i j : ℕ) → Sound fs t → r ≡ Ok i → j < length fs → full_name fs t j ≡ name → j ≡ i
found_only fs t name (Ok k) found i j sound e l s =
    let same : k ≡ i = cc in
    unique_names fs t sound j k l found.0 (s ∙ sym found.1) ∙ same
found_only fs t name (Err r) found i j sound e l s = cc

pub named_once : (fs : List Field) (t name : List ℕ) (r : Result ℕ Reason) → r ≡ only_of (named Insensitive fs t name) → NamedOnce fs t name r
named_once fs t name r e = go (named Insensitive fs t name) refl e
  where
    go : (is : List ℕ) → named Insensitive fs t name ≡ is → r ≡ only_of is → NamedOnce fs t name r
    go [] n f = rw f (inl (refl, λ j h s. hits_none (is_named Insensitive fs t name) (length fs) j n h (is_name Insensitive fs t name j s)))
    go (i ∷ []) n f =
        let only = hits_one (is_named Insensitive fs t name) (length fs) i n in
        rw f (only.0, has_name Insensitive fs t name i only.1, λ j h s. only.2 j h (is_name Insensitive fs t name j s))
    go (i ∷ (j ∷ is)) n f =
        let two = two_hits (is_named Insensitive fs t name) (length fs) i j is n in
        rw f (inr (refl, (i, j, two.0, two.1, has_name Insensitive fs t name i two.2, has_name Insensitive fs t name j two.3)))
