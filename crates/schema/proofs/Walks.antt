-- The line from the top down to a field.
use Rattle.std.proofs.Common.{◌≡◌, ℕ, zero, suc, ◌<◌, Bool, true, false, cond, ltb, List, [], ◌∷◌, ◌++◌, Some, None, Option, refl, ap, arith}
use Rattle.std.proofs.lemmas.Bool.{ltb-true}
use Rattle.schema.specs.declared.fields.Field.{Field}
use Rattle.schema.specs.Lines.{field_at, below, parent_of, above, line_within, line}

below_is : (i p : ℕ) (o : Option ℕ) → below i o ≡ Some p → p < i
below_is i p None e = let z : ◌≡◌ {A = ℕ} 0 1 = cc in absurd (omega arith)
below_is i p (Some q) e = go (ltb q i) refl e
  where
    go : (b : Bool) → ltb q i ≡ b → cond b (Some q) None ≡ Some p → p < i
    go true t e = let same : q ≡ p = cc in let less = ltb-true q i t in omega arith
    go false t e = let z : ◌≡◌ {A = ℕ} 0 1 = cc in absurd (omega arith)

-- a parent is earlier
pub parent_earlier : (fs : List Field) (i p : ℕ) → parent_of fs i ≡ Some p → p < i
parent_earlier fs i p e = below_is i p (field_at fs i).parent e

-- the same above a field that has no parent, or an earlier one
above_same : {X : Type 0} (fs : List Field) (i : ℕ) (f g : ℕ → List X) → ((p : ℕ) → p < i → f p ≡ g p) → above (parent_of fs i) f ≡ above (parent_of fs i) g
above_same {X = X} fs i f g same = go (parent_of fs i) refl
  where
    go : (o : Option ℕ) → parent_of fs i ≡ o → above o f ≡ above o g
    go None e = refl
    go (Some p) e = same p (parent_earlier fs i p e)

enough : (fs : List Field) (n m i : ℕ) → i < n → i < m → line_within n fs i ≡ line_within m fs i
enough fs zero m i h k = absurd (omega arith)
enough fs (suc n) zero i h k = absurd (omega arith)
enough fs (suc n) (suc m) i h k = ap (λ is. is ++ (i ∷ [])) (above_same fs i (line_within n fs) (line_within m fs) (λ p l. enough fs n m p (omega arith) (omega arith)))

-- the line to a field is that to its parent, and the field
pub line_step : (fs : List Field) (i : ℕ) → line fs i ≡ above (parent_of fs i) (line fs) ++ (i ∷ [])
line_step fs i = ap (λ is. is ++ (i ∷ [])) (above_same fs i (line_within i fs) (line fs) (λ p l. enough fs i (suc p) p l (omega arith)))
