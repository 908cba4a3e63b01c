-- totalOrder is the order of the bit patterns read as signs and magnitudes, so it has the laws of the order of numbers.
use Rattle.std.proofs.Common.{◌≡◌, ℕ, zero, suc, ◌+◌, ◌-◌, ◌*◌, ◌/◌, ◌%◌, ◌^◌, ◌<◌, ◌≤◌, Bool, true, false, cond, not, ◌&&◌, ◌||◌, T, eqb, ltb, leb, ◌⊎◌, ℤ, pos, Ordering, Less, Equal, Greater, sym, refl, ap, ◌∙◌, subst, inl, inr, true≢false, le_trans, le_of_eq, lt_of_le_of_lt, add_assoc, mul-le-mul_right, mod-eq_of_lt, suc-mul, le_antisymm, eq-or-lt_of_le, mul-pos, le-div_iff_mul-le, zero-add, zero-mul, mul_right_comm, arith, lit<, pow_pos, pow-add}
use lib.Pow.{shr_mono}
use lib.Ieee.{Float, Format, binary32, binary64, nan, inf, fin, lt, eq, below, level as alike, is_nan, fits, to_bits, of_bits, top, hid, ones, prec, low, up, down, size}
use lib.Ieee.Digits.{size-lt, size-le, size_reaches}
use lib.Ieee.Fits.{kept-lt, up_pos, down_pos, two}
use lib.Ieee.Nearest.{div_mono}
use lib.Ieee.Bits.{of_bits-to_bits, to_bits-lt, nan_bits_is, nan_bits_above}
use Rattle.std.specs.Ordering.{bool_cmp}
use Rattle.std.proofs.lemmas.Bool.{ltb-false, leb-true, lt-ltb, le-ltb, le-leb, lt-leb, cases_lt, eq-eqb}
use Rattle.std.proofs.lemmas.Bool.Decides.{nat_tests}
use Rattle.std.specs.Float.{is_sign_negative}
use Rattle.floats.specs.TotalOrder.{total_order, placed, sign_order, Before, Level, Lawful}
use Rattle.floats.specs.Patterns.{rank, rank_order}

-- ---- numbers

zero-pos : (m k : ℕ) → 0 < k → eqb (m * k) 0 ≡ eqb m 0
zero-pos zero k h = ap (λ (x : ℕ). eqb x 0) (zero-mul k)
zero-pos (suc m) k h = let p : 0 < suc m * k = mul-pos (omega arith) h in grind (arith, nat_tests)

pub zero_scaled : (m : ℕ) (e d : ℤ) → eqb (m * up e * down d) 0 ≡ eqb m 0
zero_scaled m e d = zero-pos (m * up e) (down d) (down_pos d) ∙ zero-pos m (up e) (up_pos e)

-- ---- a magnitude's pattern, from the magnitude in units of the smallest value

abbrev pub pattern : Format → ℕ → ℕ
pattern f n = (size n - prec f) * hid f + n / 2 ^ (size n - prec f)

size_mono : (a b : ℕ) → a ≤ b → size a ≤ size b
size_mono a b h = size-le a (size b) (lt_of_le_of_lt h (size-lt b))

hid-two : (f : Format) → 2 ^ prec f ≡ hid f + hid f
hid-two binary32 = refl
hid-two binary64 = refl

above : (f : Format) (b : ℕ) → prec f < size b → hid f ≤ b / 2 ^ (size b - prec f)
above f b h =
    let P : 2 ≤ prec f = two f in
    let r : 2 ^ (prec f - 1 + (size b - prec f)) ≤ b = size_reaches b (prec f - 1 + (size b - prec f)) (omega arith) in
    (le-div_iff_mul-le (pow_pos (size b - prec f))).1 (le_trans (le_of_eq (sym (pow-add 2 (prec f - 1) (size b - prec f)))) r)

climbs : (j k h a b : ℕ) → j < k → a < h + h → h ≤ b → j * h + a ≤ k * h + b
climbs j k h a b l p q =
    let m : suc j * h ≤ k * h = mul-le-mul_right h l in
    let s : suc j * h ≡ j * h + h = suc-mul j h in
    omega arith

pub pattern_mono : (f : Format) (a b : ℕ) → a ≤ b → pattern f a ≤ pattern f b
pattern_mono f a b h =
    let s : size a ≤ size b = size_mono a b h in
    let d : size a - prec f ≤ size b - prec f = omega arith in
    elim (eq-or-lt_of_le d) [
      | inl e ↦ subst (λ (x : ℕ). x * hid f + a / 2 ^ x ≤ pattern f b) (sym e) (let m : a / 2 ^ (size b - prec f) ≤ b / 2 ^ (size b - prec f) = shr_mono (size b - prec f) h in omega arith)
      | inr l ↦ climbs (size a - prec f) (size b - prec f) (hid f) (a / 2 ^ (size a - prec f)) (b / 2 ^ (size b - prec f)) l (subst (λ (x : ℕ). a / 2 ^ (size a - prec f) < x) (hid-two f) (kept-lt (prec f) a)) (above f b (omega arith))
    ]

-- ---- finite values

-- the magnitude, in units of the format's smallest value
abbrev pub units_of : Format → ℕ → ℤ → ℕ
units_of f m e = m * up e * 2 ^ low f / down e

units_mono : (f : Format) (m : ℕ) (e : ℤ) (n : ℕ) (d : ℤ) → m * up e * down d ≤ n * up d * down e → units_of f m e ≤ units_of f n d
units_mono f m e n d h =
    div_mono (m * up e * 2 ^ low f) (down e) (n * up d * 2 ^ low f) (down d) (down_pos e) (down_pos d)
    (le_trans (le_of_eq (mul_right_comm (m * up e) (2 ^ low f) (down d))) (le_trans (mul-le-mul_right (2 ^ low f) h) (le_of_eq (mul_right_comm (n * up d) (down e) (2 ^ low f)))))

abbrev pub mag : Format → ℕ → ℤ → ℕ
mag f m e = pattern f (units_of f m e)

bits_fin : (f : Format) (s : Bool) (m : ℕ) (e : ℤ) → to_bits f (fin s m e) ≡ cond s (top f) 0 + mag f m e
unfolding to_bits
bits_fin f s m e = add_assoc (cond s (top f) 0) ((size (units_of f m e) - prec f) * hid f) (units_of f m e / 2 ^ (size (units_of f m e) - prec f))

fits_sign : (f : Format) (s t : Bool) (m : ℕ) (e : ℤ) → T (fits f (fin s m e)) → T (fits f (fin t m e))
unfolding fits
fits_sign f s t zero e h = h
fits_sign f s t (suc m) e h = h

injective : (f : Format) (x y : Float) → T (fits f x) → T (fits f y) → to_bits f x ≡ to_bits f y → x ≡ y
injective f x y p q e = sym (of_bits-to_bits f x p) ∙ ap (of_bits f) e ∙ of_bits-to_bits f y q

mag-top : (f : Format) (s : Bool) (m : ℕ) (e : ℤ) → T (fits f (fin s m e)) → mag f m e < top f
mag-top f s m e h = let l = to_bits-lt f (fin true m e) (fits_sign f s true m e h) in let b = bits_fin f true m e in omega arith

same_cross : (m : ℕ) (e : ℤ) (n : ℕ) (d : ℤ) → ◌≡◌ {A = Float} (fin false m e) (fin false n d) → m * up e * down d ≡ n * up d * down e
same_cross m e n d h = cc

mag_strict : (f : Format) (s t : Bool) (m : ℕ) (e : ℤ) (n : ℕ) (d : ℤ) → T (fits f (fin s m e)) → T (fits f (fin t n d))
    → m * up e * down d < n * up d * down e → mag f m e < mag f n d
mag_strict f s t m e n d p q h =
    elim (eq-or-lt_of_le (pattern_mono f (units_of f m e) (units_of f n d) (units_mono f m e n d (omega arith)))) [
      | inl g ↦
          absurd
          (let b : to_bits f (fin false m e) ≡ to_bits f (fin false n d) = bits_fin f false m e ∙ ap (λ (x : ℕ). 0 + x) g ∙ sym (bits_fin f false n d) in
          let c = same_cross m e n d (injective f (fin false m e) (fin false n d) (fits_sign f s false m e p) (fits_sign f t false n d q) b) in
          omega arith)
      | inr l ↦ l
    ]

mag_same : (f : Format) (m : ℕ) (e : ℤ) (n : ℕ) (d : ℤ) → m * up e * down d ≡ n * up d * down e → mag f m e ≡ mag f n d
mag_same f m e n d h = ap (pattern f) (le_antisymm (units_mono f m e n d (le_of_eq h)) (units_mono f n d m e (le_of_eq (sym h))))

-- ---- infinities and the not-a-number

fin-inf : (m : ℕ) (e : ℤ) → ◌≡◌ {A = Float} (fin false m e) (inf false) → ⊥
fin-inf m e h = let z : ◌≡◌ {A = ℕ} 0 1 = cc in omega arith

bits_inf : (f : Format) (s : Bool) → to_bits f (inf s) ≡ cond s (top f) 0 + ones f * hid f
unfolding to_bits
bits_inf f s = refl

mag-inf : (f : Format) (s : Bool) (m : ℕ) (e : ℤ) → T (fits f (fin s m e)) → mag f m e < ones f * hid f
unfolding fits is_nan
mag-inf f s m e h =
    let k = fits_sign f s false m e h in
    let n = to_bits f (fin false m e) in
    let b : n ≡ mag f m e = bits_fin f false m e ∙ zero-add (mag f m e) in
    let l : mag f m e < top f = mag-top f s m e h in
    let a : ltb (ones f * hid f) (n % top f) ≡ false = sym (nan_bits_above f n) ∙ nan_bits_is f n ∙ ap is_nan (of_bits-to_bits f (fin false m e) k) in
    let r : n % top f ≡ n = mod-eq_of_lt (omega arith) in
    let le : n % top f ≤ ones f * hid f = ltb-false (ones f * hid f) (n % top f) a in
    let ne : (mag f m e ≡ ones f * hid f → ⊥) = λ g. fin-inf m e (injective f (fin false m e) (inf false) k tt (b ∙ g ∙ sym (zero-add (ones f * hid f)) ∙ sym (bits_inf f false))) in
    omega arith

inf-top : (f : Format) → ones f * hid f < top f
inf-top binary32 = lit< tt
inf-top binary64 = lit< tt

nan-top : (f : Format) → (ones f * hid f < to_bits f nan) × (to_bits f nan < top f)
unfolding to_bits
nan-top binary32 = (lit< tt, lit< tt)
nan-top binary64 = (lit< tt, lit< tt)

-- ---- the rank, by a sign and a magnitude

abbrev seat : ℕ → Bool → ℕ → ℕ
seat t s g = cond s (t - 1 - g) (t + g)

seated : (t b : ℕ) (s : Bool) (g : ℕ) → g < t → b ≡ cond s t 0 + g → cond (ltb b t) (t + b) (2 * t - 1 - b) ≡ seat t s g
seated t b true g h e = grind (arith, nat_tests)
seated t b false g h e = grind (arith, nat_tests)

rank-fin : (f : Format) (s : Bool) (m : ℕ) (e : ℤ) → T (fits f (fin s m e)) → rank f (fin s m e) ≡ seat (top f) s (mag f m e)
rank-fin f s m e h = seated (top f) (to_bits f (fin s m e)) s (mag f m e) (mag-top f s m e h) (bits_fin f s m e)

rank-inf : (f : Format) (s : Bool) → rank f (inf s) ≡ seat (top f) s (ones f * hid f)
rank-inf f s = seated (top f) (to_bits f (inf s)) s (ones f * hid f) (inf-top f) (bits_inf f s)

rank-nan : (f : Format) → rank f nan ≡ seat (top f) false (to_bits f nan)
rank-nan f = seated (top f) (to_bits f nan) false (to_bits f nan) (nan-top f).1 (sym (zero-add (to_bits f nan)))

-- ---- the order is that of the ranks

-- two finite values: A and B stand for the magnitudes on a common scale
core : (s t : Bool) (A B g h k : ℕ) (u v : Bool) → u ≡ eqb A 0 → v ≡ eqb B 0 → g < k → h < k → (A < B → g < h) → (B < A → h < g) → (A ≡ B → g ≡ h)
    → cond (below s A t B) true (cond (below t B s A) false (cond (alike s A t B) (cond (u && v) (s || not t) true) false)) ≡ leb (seat k s g) (seat k t h)
core false false A B g h k u v p q G H lt gt same = grind (arith, nat_tests)
core false true A B g h k u v p q G H lt gt same = grind (arith, nat_tests)
core true false A B g h k u v p q G H lt gt same = grind (arith, nat_tests)
core true true A B g h k u v p q G H lt gt same = grind (arith, nat_tests)

under : (k g h : ℕ) (s : Bool) → g < k → g < h → seat k s g < k + h
under k g h true l m = omega arith
under k g h false l m = omega arith

number-under : (f : Format) (x : Float) → T (fits f x) → is_nan x ≡ false → rank f x < rank f nan
unfolding is_nan
number-under f nan h e = absurd (true≢false e)
number-under f (inf s) h e = rw (rank-inf f s, rank-nan f) (under (top f) (ones f * hid f) (to_bits f nan) s (inf-top f) (nan-top f).0)
number-under f (fin s m e) h n =
    rw (rank-fin f s m e h, rank-nan f)
    (under (top f) (mag f m e) (to_bits f nan) s (mag-top f s m e h) (let a = mag-inf f s m e h in let b = (nan-top f).0 in omega arith))

pub by_patterns : (f : Format) (x y : Float) → T (fits f x) → T (fits f y) → total_order x y ≡ leb (rank f x) (rank f y)
unfolding lt eq is_nan is_sign_negative
by_patterns f nan nan p q = sym (le-leb (rank f nan) (rank f nan) (omega arith))
by_patterns f nan (inf t) p q = sym (lt-leb (rank f nan) (rank f (inf t)) (number-under f (inf t) q refl))
by_patterns f nan (fin t n d) p q = sym (lt-leb (rank f nan) (rank f (fin t n d)) (number-under f (fin t n d) q refl))
by_patterns f (inf s) nan p q = inf_nan s ∙ sym (le-leb (rank f (inf s)) (rank f nan) (let l = number-under f (inf s) p refl in omega arith))
  where
    inf_nan : (s : Bool) → total_order (inf s) nan ≡ true
    inf_nan s = refl
by_patterns f (fin s m e) nan p q = sym (le-leb (rank f (fin s m e)) (rank f nan) (let l = number-under f (fin s m e) p refl in omega arith))
by_patterns f (inf s) (inf t) p q = rw (rank-inf f s, rank-inf f t) (go s t (inf-top f))
  where
    go : (s t : Bool) → ones f * hid f < top f → total_order (inf s) (inf t) ≡ leb (seat (top f) s (ones f * hid f)) (seat (top f) t (ones f * hid f))
    go true true l = grind (arith, nat_tests)
    go true false l = grind (arith, nat_tests)
    go false true l = grind (arith, nat_tests)
    go false false l = grind (arith, nat_tests)
by_patterns f (inf s) (fin t n d) p q = rw (rank-inf f s, rank-fin f t n d q) (go s t (inf-top f) (mag-inf f t n d q))
  where
    go : (s t : Bool) → ones f * hid f < top f → mag f n d < ones f * hid f → total_order (inf s) (fin t n d) ≡ leb (seat (top f) s (ones f * hid f)) (seat (top f) t (mag f n d))
    go true true l g = grind (arith, nat_tests)
    go true false l g = grind (arith, nat_tests)
    go false true l g = grind (arith, nat_tests)
    go false false l g = grind (arith, nat_tests)
by_patterns f (fin s m e) (inf t) p q = rw (rank-fin f s m e p, rank-inf f t) (go s t (inf-top f) (mag-inf f s m e p))
  where
    go : (s t : Bool) → ones f * hid f < top f → mag f m e < ones f * hid f → total_order (fin s m e) (inf t) ≡ leb (seat (top f) s (mag f m e)) (seat (top f) t (ones f * hid f))
    go true true l g = grind (arith, nat_tests)
    go true false l g = grind (arith, nat_tests)
    go false true l g = grind (arith, nat_tests)
    go false false l g = grind (arith, nat_tests)
by_patterns f (fin s m e) (fin t n d) p q =
    rw (rank-fin f s m e p, rank-fin f t n d q)
    (core s t (m * up e * down d) (n * up d * down e) (mag f m e) (mag f n d) (top f) (eqb m 0) (eqb n 0) (sym (zero_scaled m e d)) (sym (zero_scaled n d e))
    (mag-top f s m e p) (mag-top f t n d q) (mag_strict f s t m e n d p q) (mag_strict f t s n d m e q p) (mag_same f m e n d))

rank_injective : (f : Format) (x y : Float) → T (fits f x) → T (fits f y) → rank f x ≡ rank f y → x ≡ y
rank_injective f x y p q e = injective f x y p q (apart (top f) (to_bits f x) (to_bits f y) (to_bits-lt f x p) (to_bits-lt f y q) e)
  where
    apart : (k a b : ℕ) → a < 2 * k → b < 2 * k → cond (ltb a k) (k + a) (2 * k - 1 - a) ≡ cond (ltb b k) (k + b) (2 * k - 1 - b) → a ≡ b
    apart k a b p q e = grind (arith, nat_tests)

-- ---- where one stands to another

-- what totalOrder says both ways, from the ranks
both_ways : (p q : Bool) (a b : ℕ) → p ≡ leb a b → q ≡ leb b a → cond p (cond q Equal Less) Greater ≡ rank_order a b
both_ways p q a b h k = grind (arith, nat_tests)

pub placed_by_rank : (f : Format) (x y : Float) → T (fits f x) → T (fits f y) → placed x y ≡ rank_order (rank f x) (rank f y)
placed_by_rank f x y p q = both_ways (total_order x y) (total_order y x) (rank f x) (rank f y) (by_patterns f x y p q) (by_patterns f y x q p)

equal_ranks : (a b : ℕ) → rank_order a b ≡ Equal → a ≡ b
equal_ranks a b h = elim (cases_lt a b) [
  | inl l ↦ absurd (differ (sym (rw (lt-ltb a b l) at h)))
  | inr l ↦ elim (cases_lt b a) [
    | inl g ↦ absurd (other (sym (rw (le-ltb a b l, lt-ltb b a g) at h)))
    | inr g ↦ le_antisymm g l
  ]
]
  where
    differ : ◌≡◌ {A = Ordering} Equal Less → ⊥
    differ e = let z : ◌≡◌ {A = ℕ} 0 1 = cc in omega arith

    other : ◌≡◌ {A = Ordering} Equal Greater → ⊥
    other e = let z : ◌≡◌ {A = ℕ} 0 1 = cc in omega arith

same_rank : (a : ℕ) → rank_order a a ≡ Equal
same_rank a = grind (arith, nat_tests)

pub level_self : (f : Format) (x y : Float) → T (fits f x) → T (fits f y) → rank f x ≡ rank f y → Level x y
level_self f x y p q e = placed_by_rank f x y p q ∙ subst (λ (n : ℕ). rank_order (rank f x) n ≡ Equal) e (same_rank (rank f x))

pub nan_last : (x : Float) → is_nan x ≡ false → Before x nan
unfolding lt eq is_nan is_sign_negative
nan_last nan h = absurd (true≢false h)
nan_last (inf s) h = refl
nan_last (fin s m e) h = refl

nan_level : Level nan nan
unfolding lt eq is_nan is_sign_negative
nan_level = refl

zeros : Before (fin true 0 (pos 0)) (fin false 0 (pos 0))
unfolding lt eq is_nan is_sign_negative
zeros = refl

-- of two numbers the lesser is not also the greater
lt_once : (x y : Float) → lt x y ≡ true → lt y x ≡ false
unfolding lt
lt_once nan y h = absurd (true≢false (sym h))
lt_once (inf s) nan h = absurd (true≢false (sym h))
lt_once (fin s m e) nan h = absurd (true≢false (sym h))
lt_once (inf true) (inf true) h = refl
lt_once (inf true) (inf false) h = refl
lt_once (inf false) (inf t) h = absurd (true≢false (sym h))
lt_once (inf true) (fin t n d) h = refl
lt_once (inf false) (fin t n d) h = absurd (true≢false (sym h))
lt_once (fin s m e) (inf true) h = absurd (true≢false (sym h))
lt_once (fin s m e) (inf false) h = refl
lt_once (fin s m e) (fin t n d) h = go s t (m * up e * down d) (n * up d * down e) h
  where
    go : (s t : Bool) (A B : ℕ) → below s A t B ≡ true → below t B s A ≡ false
    go true true A B h = grind (arith, nat_tests)
    go true false A B h = grind (arith, nat_tests)
    go false true A B h = grind (arith, nat_tests)
    go false false A B h = grind (arith, nat_tests)

pub numeric : (x y : Float) → lt x y ≡ true → Before x y
numeric x y h = let g = lt_once x y h in rw (h, g)

pub lawful : (f : Format) → Lawful f
lawful f =
    record {
      total = λ x y p q. total_ranks _ _ (rank f x) (rank f y) (by_patterns f x y p q) (by_patterns f y x q p);
      antisymmetric = λ x y p q a b. rank_injective f x y p q (le_antisymm (leb-true (rank f x) (rank f y) (sym (by_patterns f x y p q) ∙ a)) (leb-true (rank f y) (rank f x) (sym (by_patterns f y x q p) ∙ b)));
      transitive = λ x y z p q r a b. by_patterns f x z p r ∙ le-leb (rank f x) (rank f z) (le_trans (leb-true (rank f x) (rank f y) (sym (by_patterns f x y p q) ∙ a)) (leb-true (rank f y) (rank f z) (sym (by_patterns f y z q r) ∙ b)));
      level_reflexive = λ x p. level_self f x x p p refl;
      level_symmetric = λ x y p q a. level_self f y x q p (sym (ranked f x y p q a));
      level_transitive = λ x y z p q r a b. level_self f x z p r (ranked f x y p q a ∙ ranked f y z q r b);
      zeros = zeros;
      nan_last = nan_last;
      nan_level = nan_level;
      numeric = numeric;
      patterns = by_patterns f;
    }
  where
    ranked : (f : Format) (x y : Float) → T (fits f x) → T (fits f y) → Level x y → rank f x ≡ rank f y
    ranked f x y p q h = equal_ranks (rank f x) (rank f y) (sym (placed_by_rank f x y p q) ∙ h)

    total_ranks : (p q : Bool) (a b : ℕ) → p ≡ leb a b → q ≡ leb b a → (p ≡ true) ⊎ (q ≡ true)
    total_ranks p q a b h k = elim (cases_lt a b) [ inl l ↦ inl (grind (arith, nat_tests)) | inr l ↦ inr (grind (arith, nat_tests)) ]

-- ---- for the code

pub greater : (x y : Float) → lt y x ≡ true → placed x y ≡ Greater
greater x y h = let g = lt_once y x h in rw (g, h)

-- of a number and the not-a-number
pub number_first : (x y : Float) → is_nan x ≡ false → is_nan y ≡ true → placed x y ≡ Less
unfolding lt eq is_nan is_sign_negative
number_first x nan p q = nan_last x p
number_first x (inf t) p q = absurd (true≢false (sym q))
number_first x (fin t n d) p q = absurd (true≢false (sym q))

pub nan-after : (x y : Float) → is_nan x ≡ true → is_nan y ≡ false → placed x y ≡ Greater
unfolding lt eq is_nan is_sign_negative
nan-after (inf s) y p q = absurd (true≢false (sym p))
nan-after (fin s m e) y p q = absurd (true≢false (sym p))
nan-after nan nan p q = absurd (true≢false q)
nan-after nan (inf t) p q = refl
nan-after nan (fin t n d) p q = refl

pub both_nan : (x y : Float) → is_nan x ≡ true → is_nan y ≡ true → placed x y ≡ Equal
unfolding lt eq is_nan is_sign_negative
both_nan (inf s) y p q = absurd (true≢false (sym p))
both_nan (fin s m e) y p q = absurd (true≢false (sym p))
both_nan nan (inf t) p q = absurd (true≢false (sym q))
both_nan nan (fin t n d) p q = absurd (true≢false (sym q))
both_nan nan nan p q = refl

-- of equal numbers the negative comes first
pub signs : (s t : Bool) → bool_cmp t s ≡ sign_order s t
signs true true = refl
signs true false = refl
signs false true = refl
signs false false = refl

-- of two numbers of which neither is less, the signs decide
pub by_signs : (x y : Float) → is_nan x ≡ false → is_nan y ≡ false → lt x y ≡ false → lt y x ≡ false
    → placed x y ≡ sign_order (is_sign_negative x) (is_sign_negative y)
unfolding lt eq is_nan is_sign_negative
by_signs nan y p q l g = absurd (true≢false p)
by_signs (inf s) nan p q l g = absurd (true≢false q)
by_signs (fin s m e) nan p q l g = absurd (true≢false q)
by_signs (inf true) (inf true) p q l g = refl
by_signs (inf true) (inf false) p q l g = refl
by_signs (inf false) (inf true) p q l g = refl
by_signs (inf false) (inf false) p q l g = refl
by_signs (inf true) (fin t n d) p q l g = absurd (true≢false l)
by_signs (inf false) (fin t n d) p q l g = absurd (true≢false g)
by_signs (fin s m e) (inf true) p q l g = absurd (true≢false g)
by_signs (fin s m e) (inf false) p q l g = absurd (true≢false l)
by_signs (fin s m e) (fin t n d) p q l g = go s t (m * up e * down d) (n * up d * down e) (eqb m 0) (eqb n 0) (sym (zero_scaled m e d)) (sym (zero_scaled n d e)) l g
  where
    go : (s t : Bool) (A B : ℕ) (u v : Bool) → u ≡ eqb A 0 → v ≡ eqb B 0 → below s A t B ≡ false → below t B s A ≡ false
        → cond (cond (below s A t B) true (cond (below t B s A) false (cond (alike s A t B) (cond (u && v) (s || not t) true) false)))
        (cond (cond (below t B s A) true (cond (below s A t B) false (cond (alike t B s A) (cond (v && u) (t || not s) true) false))) Equal Less) Greater
        ≡ sign_order s t
    go true true A B u v p q l g = grind (arith, nat_tests)
    go true false A B u v p q l g = grind (arith, nat_tests)
    go false true A B u v p q l g = grind (arith, nat_tests)
    go false false A B u v p q l g = grind (arith, nat_tests)

-- neither first, one datum and one pattern are one thing
pub level_is_one : (f : Format) (x y : Float) → T (fits f x) → T (fits f y) → Level x y → x ≡ y
level_is_one f x y p q h = rank_injective f x y p q (equal_ranks (rank f x) (rank f y) (sym (placed_by_rank f x y p q) ∙ h))

-- a test that is true exactly of equal numbers
pub decided : (r : Bool) (m n : ℕ) → (r ≡ true → m ≡ n) → (m ≡ n → r ≡ true) → r ≡ eqb m n
decided true m n f g = sym (eq-eqb m n (f refl))
decided false m n f g = grind (arith, nat_tests)
