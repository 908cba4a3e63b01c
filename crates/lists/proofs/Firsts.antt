-- Keep-first keeps the first of equals.
use Rattle.std.proofs.Common.{◌≡◌, Bool, true, false, cond, ◌||◌, List, [], ◌∷◌, ◌++◌, sym, refl, ap, ◌∙◌, subst, ⊎_elim}
use Rattle.std.proofs.Math.Bool.{or_assoc, or-false}
use Rattle.std.proofs.lemmas.List.{append_assoc, append-nil}
use Rattle.std.proofs.lemmas.Bool.{or_left, or_right, or_parts, or_cases, cond_both}
use Rattle.lists.specs.Keep.{against, fresh, kept}
use Rattle.lists.specs.Laws.{Each, Distinct, firsts_after, firsts}

against_append : {X : Type 0} (p : X → X → Bool) (held ys : List X) (x : X) → against p (held ++ ys) x ≡ (against p held x || against p ys x)
against_append p [] ys x = refl
against_append p (k ∷ held) ys x = ap (λ b. p k x || b) (against_append p held ys x) ∙ sym (or_assoc (p k x) (against p held x) (against p ys x))

-- one that passes against the front passes against the whole
front-passes : {X : Type 0} (p : X → X → Bool) (held ys : List X) (x : X) → against p held x ≡ true → against p (held ++ ys) x ≡ true
front-passes p held ys x e = against_append p held ys x ∙ or_left (against p held x) (against p ys x) e

pub own_passes : {X : Type 0} (p : X → X → Bool) (r : (x : X) → p x x ≡ true) (held ys : List X) (x : X) → against p (held ++ (x ∷ ys)) x ≡ true
own_passes p r held ys x = against_append p held (x ∷ ys) x ∙ or_right (against p held x) (p x x || against p ys x) (or_left (p x x) (against p ys x) (r x))

-- each offered passes against one in the list
covered_by : {X : Type 0} (p : X → X → Bool) (r : (x : X) → p x x ≡ true) (held xs : List X) → Each (λ x. against p (held ++ fresh p held xs) x ≡ true) xs
covered_by p r held [] = tt
covered_by {X = X} p r held (x ∷ xs) =
    cond_both (against p held x) (fresh p held xs) (x ∷ fresh p (held ++ (x ∷ [])) xs) (λ (zs : List X). (against p (held ++ zs) x ≡ true) × Each (λ y. against p (held ++ zs) y ≡ true) xs)
    (λ e. (front-passes p held (fresh p held xs) x e, covered_by p r held xs))
    (λ e. (own_passes p r held (fresh p (held ++ (x ∷ [])) xs) x, subst (λ (zs : List X). Each (λ y. against p zs y ≡ true) xs) (append_assoc held (x ∷ []) (fresh p (held ++ (x ∷ [])) xs)) (covered_by p r (held ++ (x ∷ [])) xs)))

pub covered : {X : Type 0} (p : X → X → Bool) (r : (x : X) → p x x ≡ true) (xs : List X) → Each (λ x. against p (kept p xs) x ≡ true) xs
covered p r xs = covered_by p r [] xs

each_push : {X : Type 0} (P : X → Type 0) (xs : List X) (x : X) → Each P xs → P x → Each P (xs ++ (x ∷ []))
each_push P [] x a b = (b, tt)
each_push P (y ∷ ys) x a b = (a.0, each_push P ys x a.1 b)

-- one that passes against none of a list keeps it distinct
pub distinct_push : {X : Type 0} (p : X → X → Bool) (held : List X) (x : X) → Distinct p held → against p held x ≡ false → Distinct p (held ++ (x ∷ []))
distinct_push p [] x d e = (tt, tt)
distinct_push p (k ∷ held) x d e =
    let parts = or_parts (p k x) (against p held x) e in
    (each_push (λ y. p k y ≡ false) held x d.0 parts.0, distinct_push p held x d.1 parts.1)

distinct_by : {X : Type 0} (p : X → X → Bool) (held xs : List X) → Distinct p held → Distinct p (held ++ fresh p held xs)
distinct_by p held [] d = subst (Distinct p) (sym (append-nil held)) d
distinct_by {X = X} p held (x ∷ xs) d =
    cond_both (against p held x) (fresh p held xs) (x ∷ fresh p (held ++ (x ∷ [])) xs) (λ (zs : List X). Distinct p (held ++ zs))
    (λ e. distinct_by p held xs d)
    (λ e. subst (Distinct p) (append_assoc held (x ∷ []) (fresh p (held ++ (x ∷ [])) xs)) (distinct_by p (held ++ (x ∷ [])) xs (distinct_push p held x d e)))

pub distinct : {X : Type 0} (p : X → X → Bool) (xs : List X) → Distinct p (kept p xs)
distinct p xs = distinct_by p [] xs tt

-- under an equality those held stand for all that was seen
passes_on : {X : Type 0} (p : X → X → Bool) (t : (x y z : X) → p x y ≡ true → p y z ≡ true → p x z ≡ true) (held : List X) (x y : X) → against p held x ≡ true → p x y ≡ true → against p held y ≡ true
passes_on p t [] x y a e = a
passes_on p t (k ∷ held) x y a e =
    ⊎_elim (λ q. or_left (p k y) (against p held y) (t k x y q e)) (λ q. or_right (p k y) (against p held y) (passes_on p t held x y q e)) (or_cases (p k x) (against p held x) a)

stand_dropped : {X : Type 0} (p : X → X → Bool) (t : (x y z : X) → p x y ≡ true → p y z ≡ true → p x z ≡ true) (held seen : List X) (x : X) → ((y : X) → against p held y ≡ against p seen y) → against p held x ≡ true → (y : X) → against p held y ≡ against p (seen ++ (x ∷ [])) y
stand_dropped p t held seen x s a y = sym (against_append p seen (x ∷ []) y ∙ go (p x y) refl)
  where
    go : (b : Bool) → b ≡ p x y → (against p seen y || (b || false)) ≡ against p held y
    go true e = or_right (against p seen y) true refl ∙ sym (passes_on p t held x y a (sym e))
    go false e = or-false (against p seen y) ∙ sym (s y)

stand_kept : {X : Type 0} (p : X → X → Bool) (held seen : List X) (x : X) → ((y : X) → against p held y ≡ against p seen y) → (y : X) → against p (held ++ (x ∷ [])) y ≡ against p (seen ++ (x ∷ [])) y
stand_kept p held seen x s y = against_append p held (x ∷ []) y ∙ ap (λ b. b || against p (x ∷ []) y) (s y) ∙ sym (against_append p seen (x ∷ []) y)

cond_same : {X : Type 0} (b : Bool) {x x' y y' : X} → (b ≡ true → x ≡ x') → (b ≡ false → y ≡ y') → cond b x y ≡ cond b x' y'
cond_same true f g = f refl
cond_same false f g = g refl

first_by : {X : Type 0} (p : X → X → Bool) (t : (x y z : X) → p x y ≡ true → p y z ≡ true → p x z ≡ true) (held seen xs : List X) → ((y : X) → against p held y ≡ against p seen y) → fresh p held xs ≡ firsts_after p seen xs
first_by p t held seen [] s = refl
first_by p t held seen (x ∷ xs) s =
    rw (← s x)
    (cond_same (against p held x)
    (λ e. first_by p t held (seen ++ (x ∷ [])) xs (stand_dropped p t held seen x s e))
    (λ e. ap (λ zs. x ∷ zs) (first_by p t (held ++ (x ∷ [])) (seen ++ (x ∷ [])) xs (stand_kept p held seen x s))))

pub first : {X : Type 0} (p : X → X → Bool) (t : (x y z : X) → p x y ≡ true → p y z ≡ true → p x z ≡ true) (xs : List X) → kept p xs ≡ firsts p xs
first p t xs = first_by p t [] [] xs (λ y. refl)
