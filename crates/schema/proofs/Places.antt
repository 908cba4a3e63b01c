-- The places along a line.
use Rattle.std.proofs.Common.{MatchOption, ◌≡◌, ℕ, zero, suc, ◌+◌, ◌<◌, ◌≤◌, Bool, true, cond, List, [], ◌∷◌, ◌++◌, map, length, take, Some, None, Option, sym, refl, ap, ◌∙◌, ⊎_elim, arith}
use Rattle.std.proofs.lemmas.List.{length-map, length_push, map_push, same_from_push}
use Rattle.std.proofs.lemmas.Bool.{cases_lt, cases_order, eq-eqb}
use Rattle.values.specs.declared.kinds.Kind.{Kind}
use Rattle.schema.specs.declared.accessor.StructAccessor.{StructAccessor}
use Rattle.schema.specs.declared.fields.Field.{Field}
use Rattle.schema.specs.Lines.{parent_of, above, line, same_parent, tally, place}
use Rattle.schema.proofs.Walks.{line_step, parent_earlier}

-- an accessor leads to what stands above a field
pub record Above (fs : List Field) (i : ℕ) (k : Kind) (a : StructAccessor) : Type 0 where
  pub size : a.count ≡ length (above (parent_of fs i) (line fs))
  pub first : take a.count a.places ≡ map (place fs) (above (parent_of fs i) (line fs))
  pub kind : a.kind ≡ k

pub at_top : (fs : List Field) (i : ℕ) (k : Kind) (a b : StructAccessor) → None ≡ parent_of fs i → a ≡ b → b.count ≡ 0 → b.kind ≡ k → Above fs i k a
at_top fs i k a b o e n s = record { size = rw (← o, e) n; first = rw (← o, e) (ap (λ m. take m b.places) n); kind = rw e s }

pub under : (fs : List Field) (i p : ℕ) (k : Kind) (a b : StructAccessor) → Some p ≡ parent_of fs i → a ≡ b → (b.count ≡ length (line fs p)) × (take b.count b.places ≡ map (place fs) (line fs p)) × (b.kind ≡ k) → Above fs i k a
under fs i p k a b o e h = record { size = rw (← o, e) h.0; first = rw (← o, e) h.1; kind = rw e h.2 }

length-line : (fs : List Field) (i n : ℕ) → n ≡ length (above (parent_of fs i) (line fs)) → length (line fs i) ≡ n + 1
length-line fs i n e = ap length (line_step fs i) ∙ length_push (above (parent_of fs i) (line fs)) i ∙ ap (λ k. k + 1) (sym e)

pub top_length : (fs : List Field) (i : ℕ) → None ≡ parent_of fs i → length (line fs i) ≡ 1
top_length fs i o = length-line fs i 0 (rw (← o) refl)

pub under_length : (fs : List Field) (i p : ℕ) → Some p ≡ parent_of fs i → length (line fs i) ≡ length (line fs p) + 1
under_length fs i p o = length-line fs i (length (line fs p)) (rw (← o) refl)

-- and with the field's own place to the field, if it has room for it
pub one_more : (fs : List Field) (i : ℕ) (k : Kind) (a : StructAccessor) (v : ℕ) (r : Option StructAccessor) → Above fs i k a → v ≡ place fs i → MatchOption r (a.count ≡ 8) (λ b. (b.count ≡ a.count + 1) × (take b.count b.places ≡ take a.count a.places ++ (v ∷ [])) × (b.kind ≡ a.kind)) → MatchOption r (8 < length (line fs i)) (λ b. (b.count ≡ length (line fs i)) × (take b.count b.places ≡ map (place fs) (line fs i)) × (b.kind ≡ k))
one_more fs i k a v None h e full = omega (arith, length-line fs i a.count h.size)
one_more fs i k a v (Some b) h e more = (
  more.0 ∙ sym (length-line fs i a.count h.size),
  more.1
      ∙ ap (λ w. take a.count a.places ++ (w ∷ [])) e
      ∙ ap (λ ps. ps ++ (place fs i ∷ [])) h.first
      ∙ sym (ap (map (place fs)) (line_step fs i) ∙ map_push (place fs) (above (parent_of fs i) (line fs)) i),
  more.2 ∙ h.kind,
)

-- no room for those above it
pub too_long_above : (fs : List Field) (i p len : ℕ) → Some p ≡ parent_of fs i → len < length (line fs p) → len < length (line fs i)
too_long_above fs i p len o h = omega (arith, length-line fs i (length (line fs p)) (rw (← o) refl))

-- a line has at least the field itself
pub line_some : (fs : List Field) (i : ℕ) → 1 ≤ length (line fs i)
line_some fs i = omega (arith, length-line fs i (length (above (parent_of fs i) (line fs))) refl)

same_parent_self : (o : Option ℕ) → same_parent o o ≡ true
same_parent_self None = refl
same_parent_self (Some p) = eq-eqb p p refl

tally_le : (p : ℕ → Bool) (m n : ℕ) → m ≤ n → tally p m ≤ tally p n
tally_le p m zero h = let same : m ≡ 0 = omega arith in rw same (omega arith)
tally_le p m (suc n) h =
    ⊎_elim
    (λ (l : m < suc n). let earlier = tally_le p m n (omega arith) in omega arith)
    (λ (l : suc n ≤ m). let same : m ≡ suc n = omega arith in rw same (omega arith))
    (cases_lt m (suc n))

-- of two fields of one parent the later has the greater place
place_less : (fs : List Field) (i j : ℕ) → parent_of fs i ≡ parent_of fs j → i < j → place fs i < place fs j
place_less fs i j o h =
    let p = λ (k : ℕ). same_parent (parent_of fs k) (parent_of fs j) in
    let here : p i ≡ true = rw o (same_parent_self (parent_of fs j)) in
    let before : place fs i ≡ tally p i = ap (λ q. tally (λ k. same_parent (parent_of fs k) q) i) o in
    let at_i : tally p (suc i) ≡ tally p i + 1 = ap (λ b. tally p i + cond b 1 0) here in
    let after = tally_le p (suc i) j (omega arith) in
    omega arith

same_place : (fs : List Field) (i j : ℕ) → parent_of fs i ≡ parent_of fs j → place fs i ≡ place fs j → i ≡ j
same_place fs i j o e =
    ⊎_elim (λ (s : i ≡ j). s)
    (⊎_elim
    (λ (l : i < j). absurd (omega (arith, place_less fs i j o l)))
    (λ (l : j < i). absurd (omega (arith, place_less fs j i (sym o) l))))
    (cases_order i j)

-- two fields with the same places along their lines are one
same_places-within : (n : ℕ) (fs : List Field) (i j : ℕ) → i < n → map (place fs) (line fs i) ≡ map (place fs) (line fs j) → i ≡ j
same_places-within zero fs i j h e = absurd (omega arith)
same_places-within (suc n) fs i j h e =
    let ends = same_from_push (map (place fs) (above (parent_of fs i) (line fs))) (map (place fs) (above (parent_of fs j) (line fs))) (place fs i) (place fs j) (sym (at_end i) ∙ e ∙ at_end j) in
    same_place fs i j (parents (parent_of fs i) (parent_of fs j) refl (λ p q l. same_places-within n fs p q (omega arith)) ends.0) ends.1
  where
    at_end : (k : ℕ) → map (place fs) (line fs k) ≡ map (place fs) (above (parent_of fs k) (line fs)) ++ (place fs k ∷ [])
    at_end k = ap (map (place fs)) (line_step fs k) ∙ map_push (place fs) (above (parent_of fs k) (line fs)) k

    some : (k : ℕ) → map (place fs) (line fs k) ≡ [] → ⊥
    some k s = let size : length (line fs k) ≡ 0 = sym (length-map (line fs k) (place fs)) ∙ ap length s in omega (arith, line_some fs k)

    parents : (o r : Option ℕ) → parent_of fs i ≡ o → ((p q : ℕ) → p < i → map (place fs) (line fs p) ≡ map (place fs) (line fs q) → p ≡ q) → map (place fs) (above o (line fs)) ≡ map (place fs) (above r (line fs)) → o ≡ r
    parents None None s f g = refl
    parents None (Some q) s f g = absurd (some q (sym g))
    parents (Some p) None s f g = absurd (some p g)
    parents (Some p) (Some q) s f g = ap Some (f p q (parent_earlier fs i p s) g)

pub same_places : (fs : List Field) (i j : ℕ) → map (place fs) (line fs i) ≡ map (place fs) (line fs j) → i ≡ j
same_places fs i j e = same_places-within (suc i) fs i j (omega arith) e
