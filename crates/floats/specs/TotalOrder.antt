-- The predicate totalOrder(x, y) of IEEE 754-2019, clause 5.10, for a binary format with one not-a-number, positive:
-- a number before every greater one and after every lesser one; of the zeros the negative one first; of equal data
-- either before the other; the positive not-a-number after every number. The Iceberg specification orders floats so:
-- -0.0 before 0.0, not-a-number last.
use Rattle.std.specs.Prelude.{◌≡◌, Bool, true, false, cond, not, ◌&&◌, ◌||◌, T, ◌⊎◌, pos, ◌==◌, is_nan, nat_le, Float}
use Rattle.std.specs.declared.cmp.Ordering.TheVariants.{Less, Equal, Greater}
use Rattle.std.specs.declared.cmp.Ordering.{Ordering}
use Rattle.std.specs.Float.Ieee.{lt, eq, fits}
use Rattle.std.specs.Float.{is_sign_negative, Format, nan, inf, fin}
use Rattle.floats.specs.Patterns.{rank}

-- a zero, of either sign
abbrev pub is_zero : Float → Bool
is_zero nan = false
is_zero (inf s) = false
is_zero (fin s m e) = m == 0

-- the clauses in their order: x < y; x > y; x = y, where zeros go by their signs; unordered
abbrev pub total_order : Float → Float → Bool
total_order x y =
    cond (lt x y) true
    (cond (lt y x) false
    (cond (eq x y) (cond (is_zero x && is_zero y) (is_sign_negative x || not (is_sign_negative y)) true)
    (is_nan y)))

-- where x stands to y: equal where totalOrder puts neither first
abbrev pub placed : Float → Float → Ordering
placed x y = cond (total_order x y) (cond (total_order y x) Equal Less) Greater

-- a negative sign first
abbrev pub sign_order : Bool → Bool → Ordering
sign_order s t = cond s (cond t Equal Less) (cond t Greater Equal)

-- x comes first
abbrev pub Before : Float → Float → Type 0
Before x y = placed x y ≡ Less

-- neither comes first
abbrev pub Level : Float → Float → Type 0
Level x y = placed x y ≡ Equal

abbrev pub plus_zero : Float
plus_zero = fin false 0 (pos 0)

abbrev pub minus_zero : Float
minus_zero = fin true 0 (pos 0)

-- what holds of all data of a format
pub record Lawful (f : Format) : Type 0 where
  pub total : (x y : Float) → T (fits f x) → T (fits f y) → (total_order x y ≡ true) ⊎ (total_order y x ≡ true)
  pub antisymmetric : (x y : Float) → T (fits f x) → T (fits f y) → total_order x y ≡ true → total_order y x ≡ true → x ≡ y
  pub transitive : (x y z : Float) → T (fits f x) → T (fits f y) → T (fits f z) → total_order x y ≡ true → total_order y z ≡ true → total_order x z ≡ true
  -- neither first is an equivalence
  pub level_reflexive : (x : Float) → T (fits f x) → Level x x
  pub level_symmetric : (x y : Float) → T (fits f x) → T (fits f y) → Level x y → Level y x
  pub level_transitive : (x y z : Float) → T (fits f x) → T (fits f y) → T (fits f z) → Level x y → Level y z → Level x z
  -- -0.0 stands below 0.0
  pub zeros : Before minus_zero plus_zero
  -- the not-a-number stands above all else, and level with itself
  pub nan_last : (x : Float) → is_nan x ≡ false → Before x nan
  pub nan_level : Level nan nan
  -- of two numbers that differ the lesser comes first
  pub numeric : (x y : Float) → lt x y ≡ true → Before x y
  -- the order is that of the bit patterns, read as signs and magnitudes
  pub patterns : (x y : Float) → T (fits f x) → T (fits f y) → total_order x y ≡ nat_le (rank f x) (rank f y)
