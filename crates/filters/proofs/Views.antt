-- The cases of a join that folds, and of an answer that comes in steps.
use Rattle.std.proofs.Common.{◌≡◌, ℕ, Bool, true, false, Ok, Err, Result, refl, arith}
use mathlib.Core.Option.{Option, some, none}
use Rattle.filters.specs.Trees.{Tree, constant, condition, And, Or, Not, plain, and_by, and, or_by, or}
use Rattle.filters.specs.Meanings.{then}

plain_is : {X : Type 0} (t : Tree X) (b : Bool) → plain t ≡ some b → t ≡ constant b
plain_is (constant a) b e = cc
plain_is (condition c) b e = cc
plain_is (And l r) b e = cc
plain_is (Or l r) b e = cc
plain_is (Not t) b e = cc

module _ {X : Type 0} (P : Tree X → Type 0) (l r : Tree X) where
  and_go : (p q : Option Bool) → plain l ≡ p → plain r ≡ q → (l ≡ constant false → P l) → (l ≡ constant true → P r) → (r ≡ constant false → P r) → (r ≡ constant true → P l) → (plain l ≡ none → plain r ≡ none → P (And l r)) → P (and_by p q l r)
  and_go (some false) q d e lf lt rf rt nn = lf (plain_is l false d)
  and_go (some true) q d e lf lt rf rt nn = lt (plain_is l true d)
  and_go none (some false) d e lf lt rf rt nn = rf (plain_is r false e)
  and_go none (some true) d e lf lt rf rt nn = rt (plain_is r true e)
  and_go none none d e lf lt rf rt nn = nn d e

  pub and_view : (l ≡ constant false → P l) → (l ≡ constant true → P r) → (r ≡ constant false → P r) → (r ≡ constant true → P l) → (plain l ≡ none → plain r ≡ none → P (And l r)) → P (and l r)
  and_view = and_go (plain l) (plain r) refl refl

  or_go : (p q : Option Bool) → plain l ≡ p → plain r ≡ q → (l ≡ constant true → P l) → (l ≡ constant false → P r) → (r ≡ constant true → P r) → (r ≡ constant false → P l) → (plain l ≡ none → plain r ≡ none → P (Or l r)) → P (or_by p q l r)
  or_go (some true) q d e lf lt rf rt nn = lf (plain_is l true d)
  or_go (some false) q d e lf lt rf rt nn = lt (plain_is l false d)
  or_go none (some true) d e lf lt rf rt nn = rf (plain_is r true e)
  or_go none (some false) d e lf lt rf rt nn = rt (plain_is r false e)
  or_go none none d e lf lt rf rt nn = nn d e

  pub or_view : (l ≡ constant true → P l) → (l ≡ constant false → P r) → (r ≡ constant true → P r) → (r ≡ constant false → P l) → (plain l ≡ none → plain r ≡ none → P (Or l r)) → P (or l r)
  or_view = or_go (plain l) (plain r) refl refl

pub then_parts : {A B F : Type 0} (r : Result A F) (f : A → Result B F) (z : B) → then r f ≡ Ok z → (x : A) × (r ≡ Ok x) × (f x ≡ Ok z)
then_parts (Ok x) f z h = (x, refl, h)
then_parts (Err e) f z h = let z : ◌≡◌ {A = ℕ} 0 1 = cc in absurd (omega arith)

pub ok_same : {A F : Type 0} (x y : A) → ◌≡◌ {A = Result A F} (Ok x) (Ok y) → x ≡ y
ok_same x y e = cc
