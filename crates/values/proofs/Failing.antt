-- The first literal that fails a test, as a search for it answers; and what is then refused.
use Rattle.std.proofs.Common.{◌≡◌, ℕ, ◌+◌, Bool, true, false, not, cond, ltb, List, [], ◌∷◌, length, Option, Some, None, Ok, Err, refl, ap, ap₂, ◌∙◌}
use Rattle.std.proofs.lemmas.Iterator.Adapters.{position_from-zero}
use Rattle.std.specs.List.{position_from, position_or_len}
use Rattle.values.specs.declared.literals.Literal.{Literal}
use Rattle.values.specs.declared.refusals.Reason.{Reason}
use Rattle.values.specs.declared.refusals.Reason.TheVariants as R
use Rattle.values.specs.declared.refusals.Refused.{Refused}
use Rattle.values.specs.Contents.{text_inside}
use Rattle.values.specs.Kept.{well_kept}
use Rattle.values.specs.Admission.{first_failing, admitted}

turned : (b : Bool) (x y : Option ℕ) → cond (not b) x y ≡ cond b y x
turned true x y = refl
turned false x y = refl

from_there : (p : Literal → Bool) (i : ℕ) (ls : List Literal) → position_from (λ l. not (p l)) i ls ≡ first_failing p i ls
from_there p i [] = refl
from_there p i (l ∷ ls) = turned (p l) _ _ ∙ ap (λ (o : Option ℕ). cond (p l) o (Some i)) (from_there p (i + 1) ls)

pub is_first : (p : Literal → Bool) (ls : List Literal) (r : Option ℕ)
    → r ≡ cond (ltb (position_or_len (λ l. not (p l)) ls) (length ls)) (Some (position_or_len (λ l. not (p l)) ls)) None
    → r ≡ first_failing p 0 ls
is_first p ls r e = e ∙ position_from-zero (λ l. not (p l)) ls ∙ from_there p 0 ls

pub none : (o : Option ℕ) → ((i : ℕ) → o ≡ Some i → ⊥) → o ≡ None
none None h = refl
none (Some i) h = elim (h i refl) [ ]

told : (e : Refused) (r : Reason) (i : ℕ) → e.reason ≡ r → e.place ≡ i → e ≡ record { reason = r; place = i }
told e r i p q = ap₂ (λ (s : Reason) (j : ℕ). record { reason = s; place = j }) p q

-- the three ways out of the check
module _ (n : ℕ) (ls : List Literal) where
  pub outside : (i : ℕ) (e : Refused) → first_failing (λ l. text_inside n l.value) 0 ls ≡ Some i → e.reason ≡ R.TextOutside → e.place ≡ i → Err e ≡ admitted n ls
  outside i e f p q = rw f (ap Err (told e R.TextOutside i p q))

  pub ill_kept : (i : ℕ) (e : Refused) → first_failing (λ l. text_inside n l.value) 0 ls ≡ None → first_failing well_kept 0 ls ≡ Some i → e.reason ≡ R.OtherStorage → e.place ≡ i → Err e ≡ admitted n ls
  ill_kept i e f g p q = rw (f, g) (ap Err (told e R.OtherStorage i p q))

  pub granted : first_failing (λ l. text_inside n l.value) 0 ls ≡ None → first_failing well_kept 0 ls ≡ None → Ok tt ≡ admitted n ls
  granted f g = rw (f, g) refl
