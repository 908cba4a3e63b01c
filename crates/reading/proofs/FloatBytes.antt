-- Texts that std reads as floats.
use Rattle.std.proofs.Common.{◌≡◌, ℕ, ◌<◌, ◌≤◌, Bool, true, false, ◌&&◌, ◌||◌, eqb, ltb, List, [], ◌∷◌, None, Ok, Err, IsAscii, Some, Option, Result, sym, refl, ap, ◌∙◌, inl, inr, arith}
use lib.Ieee.{Float, Format, binary32, binary64}
use Rattle.std.specs.Float.Parse.{float_scan_step, completes_number, lowercases_to, without_sign, is_infinity_text, is_nan_text, is_float_text, ParsesFloat, IsParseFloatResult}
use Rattle.std.specs.Result.{result_ok}
use Rattle.std.specs.Option.{MatchOption}
use Rattle.std.specs.Char.{to_ascii_lowercase}
use Rattle.std.proofs.lemmas.Str.Ascii.{IsAscii-nil, IsAscii-cons}
use Rattle.std.proofs.lemmas.Bool.{cases_Bool, cases_lt, false≢true, and_parts, or_cases, eqb-true, ltb-true}
use Rattle.std.proofs.lemmas.Str.{IsUtf8-from_ascii}
use Rattle.std.proofs.lemmas.Bool.Decides.{nat_tests}
use Rattle.reading.specs.Writing.{Reads, Parsed}
use Rattle.values.specs.declared.kinds.Storage.{Storage}
use Rattle.values.specs.declared.kinds.Storage.TheVariants as S
use Rattle.values.specs.declared.literals.Span.{Span}
use Rattle.values.specs.declared.literals.Value.{Value}
use Rattle.values.specs.declared.literals.Value.TheVariants as V
use Rattle.values.specs.Contents.{bytes_at}
use Rattle.reading.specs.Literals.{FloatText}
use Rattle.reading.specs.Placed.{ValueRead}

-- past a byte that no number has, nothing is one
stuck : (c : ℕ) → float_scan_step 7 c ≡ 7
stuck c = grind (arith, nat_tests)

high : (s c : ℕ) → 128 ≤ c → float_scan_step s c ≡ 7
high s c h = grind (arith, nat_tests)

never : (cs : List ℕ) → completes_number 7 cs ≡ false
never [] = refl
never (c ∷ cs) = rw (stuck c) (never cs)

number_ascii : (s : ℕ) (cs : List ℕ) → completes_number s cs ≡ true → IsAscii cs
number_ascii s [] h = IsAscii-nil
number_ascii s (c ∷ cs) h =
    elim (cases_lt c 128) [
      | inl l ↦ IsAscii-cons c cs l (number_ascii (float_scan_step s c) cs h)
      | inr g ↦ absurd (false≢true (sym (never cs) ∙ ap (λ (n : ℕ). completes_number n cs) (sym (high s c g)) ∙ h))
    ]

lower_high : (c w : ℕ) → to_ascii_lowercase c ≡ w → w < 128 → c < 128
lower_high c w e h = grind (arith, nat_tests)

abbrev low : List ℕ → Bool
low [] = true
low (w ∷ ws) = ltb w 128 && low ws

spelt_ascii : (cs ws : List ℕ) → low ws ≡ true → lowercases_to cs ws ≡ true → IsAscii cs
spelt_ascii [] ws a h = IsAscii-nil
spelt_ascii (c ∷ cs) [] a h = absurd (false≢true h)
spelt_ascii (c ∷ cs) (w ∷ ws) a h =
    let p = and_parts (eqb (to_ascii_lowercase c) w) (lowercases_to cs ws) h in
    let q = and_parts (ltb w 128) (low ws) a in
    IsAscii-cons c cs (lower_high c w (eqb-true (to_ascii_lowercase c) w p.0) (ltb-true w 128 q.0)) (spelt_ascii cs ws q.1 p.1)

word_ascii : (ds : List ℕ) → (is_infinity_text ds || is_nan_text ds) ≡ true → IsAscii ds
word_ascii ds h =
    elim (or_cases (is_infinity_text ds) (is_nan_text ds) h) [
      | inl i ↦ elim (or_cases (lowercases_to ds (105 ∷ 110 ∷ 102 ∷ [])) (lowercases_to ds (105 ∷ 110 ∷ 102 ∷ 105 ∷ 110 ∷ 105 ∷ 116 ∷ 121 ∷ [])) i) [
        | inl s ↦ spelt_ascii ds (105 ∷ 110 ∷ 102 ∷ []) refl s
        | inr s ↦ spelt_ascii ds (105 ∷ 110 ∷ 102 ∷ 105 ∷ 110 ∷ 105 ∷ 116 ∷ 121 ∷ []) refl s
      ]
      | inr n ↦ spelt_ascii ds (110 ∷ 97 ∷ 110 ∷ []) refl n
    ]

-- a sign is no more than one byte
whole_ascii : (bs : List ℕ) → IsAscii (without_sign bs) → IsAscii bs
whole_ascii [] a = IsAscii-nil
whole_ascii (c ∷ cs) a =
    elim (cases_Bool (eqb c 43 || eqb c 45)) [
      | inl s ↦ IsAscii-cons c cs (grind (arith, nat_tests)) (simp s at a)
      | inr s ↦ (simp s at a)
    ]

float_ascii : (bs : List ℕ) → is_float_text bs ≡ true → IsAscii bs
float_ascii bs h =
    whole_ascii bs (elim (or_cases (completes_number 0 (without_sign bs)) (is_infinity_text (without_sign bs) || is_nan_text (without_sign bs)) h) [ inl n ↦ number_ascii 0 (without_sign bs) n | inr w ↦ word_ascii (without_sign bs) w ])

float_read : {E : Type 0} (f : Format) (k : ℕ) (bs : List ℕ) (r : Result Float E) → ParsesFloat f k bs r → Reads (FloatText f k) bs (result_ok r)
float_read f k bs (Ok x) h = (sym h.0, λ n l. let e = h.1 n l in cc)
float_read f k bs (Err e) h = λ x w. false≢true (h.0 ∙ w.0)

float_of : {E : Type 0} (f : Format) (k : ℕ) (bs : List ℕ) (o : Option Float) → Parsed {E = E} (λ t r. ParsesFloat f k t r × IsParseFloatResult f t r) bs o → Reads (FloatText f k) bs o
float_of f k bs o (inl h) = rw h.1 (λ x w. h.0 (IsUtf8-from_ascii bs (float_ascii bs w.0)))
float_of f k bs o (inr h) = rw h.1.1 (float_read f k bs h.0 h.1.0.0)

-- the value m that is made of what std reads
pub single_value : {E : Type 0} (line t : List ℕ) (s : Storage) (w : Span) (o : Option Float) (m : Option Value) → s ≡ S.Float → t ≡ bytes_at line w
    → Parsed {E = E} (λ u r. ParsesFloat binary32 32 u r × IsParseFloatResult binary32 u r) t o → MatchOption o (m ≡ None) (λ x. m ≡ Some (V.Float x)) → ValueRead line s w m
single_value line t s w (Some x) m k e h g = let r = float_of binary32 32 t (Some x) h in rw (k, g) ((x, (refl, (rw e at r))), λ o. refl)
single_value line t s w None m k e h g = rw (k, g) (λ c v. float_of binary32 32 t None h v.0 (rw (← e) at v.1.1))

pub double_value : {E : Type 0} (line t : List ℕ) (s : Storage) (w : Span) (o : Option Float) (m : Option Value) → s ≡ S.Double → t ≡ bytes_at line w
    → Parsed {E = E} (λ u r. ParsesFloat binary64 64 u r × IsParseFloatResult binary64 u r) t o → MatchOption o (m ≡ None) (λ x. m ≡ Some (V.Double x)) → ValueRead line s w m
double_value line t s w (Some x) m k e h g = let r = float_of binary64 64 t (Some x) h in rw (k, g) ((x, (refl, (rw e at r))), λ o. refl)
double_value line t s w None m k e h g = rw (k, g) (λ c v. float_of binary64 64 t None h v.0 (rw (← e) at v.1.1))
