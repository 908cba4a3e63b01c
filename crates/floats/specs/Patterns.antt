-- Bit patterns read as a sign and a magnitude.
use Rattle.std.specs.Prelude.{ℕ, ◌+◌, ◌-◌, ◌*◌, cond, nat_lt, to_bits, Float}
use Rattle.std.specs.declared.cmp.Ordering.TheVariants.{Less, Equal, Greater}
use Rattle.std.specs.declared.cmp.Ordering.{Ordering}
use Rattle.std.specs.Float.{Format}
use Rattle.std.specs.Float.Ieee.{top}

-- a pattern's place among all of the format's: from the negative ones, the greatest magnitude first, to the positive ones
abbrev pub rank : Format → Float → ℕ
rank f x = cond (nat_lt (to_bits f x) (top f)) (top f + to_bits f x) (2 * top f - 1 - to_bits f x)

-- where a place stands to another
abbrev pub rank_order : ℕ → ℕ → Ordering
rank_order a b = cond (nat_lt a b) Less (cond (nat_lt b a) Greater Equal)
