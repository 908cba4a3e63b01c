-- The not-a-number is told by its place among the bit patterns.
use Rattle.std.proofs.Common.{◌≡◌, true, T, eqb, refl, ap, ◌∙◌}
use lib.Ieee.{Float, Format, nan, inf, fin, is_nan, fits}
use Rattle.floats.specs.Patterns.{rank}
use Rattle.floats.proofs.Ranks.{level_self, level_is_one, decided}

nan_fits : (f : Format) → T (fits f nan)
unfolding fits
nan_fits f = tt

only_nan : (x : Float) → is_nan x ≡ true → x ≡ nan
unfolding is_nan
only_nan nan h = refl
only_nan (inf s) h = absurd (cc)
only_nan (fin s m e) h = absurd (cc)

nan_is_nan : is_nan nan ≡ true
unfolding is_nan
nan_is_nan = refl

pub told_by_place : (f : Format) (x : Float) → T (fits f x) → is_nan x ≡ eqb (rank f x) (rank f nan)
told_by_place f x h =
    decided (is_nan x) (rank f x) (rank f nan) (λ t. ap (rank f) (only_nan x t))
    (λ e. ap is_nan (level_is_one f x nan h (nan_fits f) (level_self f x nan h (nan_fits f) e)) ∙ nan_is_nan)
