-- Frames put on a stack.
use Rattle.std.proofs.Common.{◌≡◌, ℕ, zero, suc, ◌+◌, ◌<◌, ◌≤◌, List, ◌∷◌, length, set, refl, ap, ◌∙◌, ap₂, arith, get_or-set_other, get_or-set_same}
use Rattle.walk.specs.declared.frames.Frame.{Frame}
use Rattle.walk.specs.declared.frames.Frame.TheVariants.{Not}
use Rattle.walk.specs.Steps.{stacked}

module _ {A : Type 0} (fs : List (Frame A)) where
  stacked_below : (k : ℕ) (f : Frame A) (n : ℕ) → n ≤ k → stacked (set fs k f) n ≡ stacked fs n
  stacked_below k f zero h = refl
  stacked_below k f (suc n) h = ap₂ ◌∷◌ (get_or-set_other fs k n f (Not 0) (λ e. omega arith)) (stacked_below k f n (omega arith))

  pub stacked_push : (k : ℕ) (f : Frame A) → k < length fs → stacked (set fs k f) (k + 1) ≡ f ∷ stacked fs k
  stacked_push k f h =
      ap (stacked (set fs k f)) (let e : k + 1 ≡ suc k = omega arith in e)
      ∙ ap₂ ◌∷◌ (get_or-set_same fs k f (Not 0) h) (stacked_below k f k (omega arith))

  pub stacked_length : (n : ℕ) → length (stacked fs n) ≡ n
  stacked_length zero = refl
  stacked_length (suc n) = let e = stacked_length n in omega arith
