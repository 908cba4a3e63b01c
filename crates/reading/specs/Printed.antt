-- Numbers that are read as they are printed.
use Rattle.std.proofs.Common.{◌≡◌, ℕ, zero, suc, ◌^◌, ◌<◌, ◌≤◌, leb, true, List, [], ◌∷◌, length, get_or, drop, ℤ, pos, negsuc, neg_ℤ, Ok, Err, decimal, Option, Result, sym, refl, ap, ◌∙◌, inl, inr, arith, length-drop, SFits}
use lib.Signed.{mag}
use mir.Syntax.{Width}
use mir.Val.{hbits}
use Rattle.std.specs.Str.Parse.{ExplainsUnsignedError, ExplainsSignedError, AllDigits, digits_value, ParsesUnsigned, ParsesSigned, HasUnsignedDigitsIfOk, HasSignedDigitsIfOk}
use Rattle.std.specs.declared.num.ParseIntError.{ParseIntError}
use Rattle.std.specs.Fmt.{signed_decimal}
use Rattle.std.specs.Result.{result_ok}
use Rattle.std.proofs.lemmas.Fmt.{decimal-digits_value, decimal_digit, first_decimal, decimal_nonempty, parse-decimal, parse-signed_decimal, IsAscii-decimal, IsAscii-signed}
use Rattle.std.proofs.lemmas.Str.Parse.{IsNumeralModel, numerals_by_value, tells_digits, parse_plain, parse_signed_plain, parse_signed_minus}
use Rattle.std.proofs.lemmas.Str.{IsUtf8-from_ascii}
use Rattle.std.proofs.lemmas.Bool.{cases_eq, leb-true}
use Rattle.std.proofs.lemmas.Bool.Decides.{nat_tests}
use Rattle.reading.specs.Writing.{Reads, Natural, Integer, plain, Parsed}

own : IsNumeralModel (AllDigits 10) (digits_value 10)
own = numerals_by_value _ tells_digits

plain-decimal : (n : ℕ) → n < 2 ^ 64 → plain (decimal n) ≡ true
plain-decimal n h =
    elim (cases_eq n 0) [
      | inl e ↦ rw (e, decimal_digit 0 (omega arith))
      | inr e ↦ (let f = first_decimal n (omega arith) h in let l = decimal_nonempty n h in grind (arith, nat_tests))
    ]

plain_signed : (z : ℤ) → mag z < 2 ^ 63 → plain (signed_decimal z) ≡ true
plain_signed (pos n) h = plain-decimal n (omega arith)
plain_signed (negsuc n) h = let f = first_decimal (suc n) (omega arith) (omega arith) in let l = decimal_nonempty (suc n) (omega arith) in grind (arith, nat_tests)

no_plus : (bs : List ℕ) → plain bs ≡ true → get_or bs 0 0 ≡ 43 → ⊥
no_plus bs p e = grind (arith, nat_tests)

one-zero : (bs : List ℕ) → plain bs ≡ true → get_or bs 0 0 ≡ 48 → length bs ≡ 1
one-zero bs p e = grind (arith, nat_tests)

no-minus_zero : (bs : List ℕ) → plain bs ≡ true → 1 < length bs → get_or bs 0 0 ≡ 45 → get_or bs 1 0 ≡ 48 → ⊥
no-minus_zero bs p l m e = grind (arith, nat_tests)

natural_read : {E : Type 0} (k : ℕ) → 2 ^ k ≤ 2 ^ 64 → (bs : List ℕ) (r : Result ℕ E) → plain bs ≡ true → ParsesUnsigned k 10 bs r → Reads (Natural k) bs (result_ok r)
natural_read {E} k b bs (Ok n) p h =
    let q = parse_plain own {E = E} k bs (Ok n) h (no_plus bs p) in
    let e : n ≡ digits_value 10 bs = q.1 in
    let d : decimal (digits_value 10 bs) ≡ bs = decimal-digits_value own bs q.0.0 q.0.1 (one-zero bs p) (omega (arith, q.0.2)) in
    (rw e q.0.2, sym d ∙ ap decimal (sym e))
natural_read {E} k b bs (Err e) p h = λ n w.
    let clash : ◌≡◌ {A = Result ℕ E} (Err e) (Ok n) = parse-decimal k n bs (Err e) w.0 (omega (arith, w.0)) w.1 h in
    let z : ◌≡◌ {A = ℕ} 0 1 = cc in omega arith

negative : (w : Width) (ds : List ℕ) (n : ℕ) (z : ℤ) → n ≤ 2 ^ hbits w → (n ≡ 0 → ⊥) → decimal n ≡ ds → z ≡ neg_ℤ (pos n) → SFits w z × ((45 ∷ ds) ≡ signed_decimal z)
negative w ds zero z b nz e q = absurd (nz refl)
negative w ds (suc n) z b nz e q = rw q (record { sfits = omega arith }, ap (λ (t : List ℕ). 45 ∷ t) (sym e))

with_minus : (bs : List ℕ) → get_or bs 0 0 ≡ 45 → bs ≡ 45 ∷ drop 1 bs
with_minus [] e = absurd (omega arith)
with_minus (c ∷ cs) e = ap (λ (x : ℕ). x ∷ cs) e

second : (bs : List ℕ) → get_or (drop 1 bs) 0 0 ≡ get_or bs 1 0
second [] = refl
second (c ∷ cs) = refl

integer_read : {E : Type 0} (w : Width) → 2 ^ hbits w ≤ 2 ^ 63 → (bs : List ℕ) (r : Result ℤ E) → plain bs ≡ true → ParsesSigned w 10 bs r → Reads (Integer w) bs (result_ok r)
integer_read {E} w b bs (Ok z) p h =
    elim (cases_eq (get_or bs 0 0) 45) [
      | inl m ↦
          (let q = parse_signed_minus own {E = E} w bs (Ok z) h m in
          let ds = drop 1 bs in
          let v = digits_value 10 ds in
          let more : 1 < length bs = omega (arith, q.0.1, length-drop 1 bs) in
          let first : get_or ds 0 0 ≡ 48 → ⊥ = λ e. no-minus_zero bs p more m (sym (second bs) ∙ e) in
          let d : decimal v ≡ ds = decimal-digits_value own ds q.0.0 q.0.1 (λ e. absurd (first e)) (omega (arith, q.0.2)) in
          let nonzero : v ≡ 0 → ⊥ = λ e. first (ap (λ (t : List ℕ). get_or t 0 0) (sym d ∙ ap decimal e ∙ decimal_digit 0 (omega arith))) in
          let s = negative w ds v z q.0.2 nonzero d q.1 in
          (s.0, with_minus bs m ∙ s.1))
      | inr m ↦
          (let q = parse_signed_plain own {E = E} w bs (Ok z) h (no_plus bs p) m in
          let d : decimal (digits_value 10 bs) ≡ bs = decimal-digits_value own bs q.0.0 q.0.1 (one-zero bs p) (omega (arith, q.0.2)) in
          rw q.1 (record { sfits = q.0.2 }, sym d))
    ]
integer_read {E} w b bs (Err e) p h = λ z t.
    let clash : ◌≡◌ {A = Result ℤ E} (Err e) (Ok z) = parse-signed_decimal w z bs (Err e) t.0 (omega (arith, t.0.sfits)) t.1 h in
    let o : ◌≡◌ {A = ℕ} 0 1 = cc in omega arith

-- what std reads in a plain text is what is printed
pub natural_is_read : (k : ℕ) → leb (2 ^ k) (2 ^ 64) ≡ true → (bs : List ℕ) (o : Option ℕ) → plain bs ≡ true
    → Parsed {E = ParseIntError} (λ t r. ParsesUnsigned k 10 t r × ExplainsUnsignedError 10 t r × HasUnsignedDigitsIfOk t r) bs o → Reads (Natural k) bs o
natural_is_read k b bs o p (inl h) = let l = leb-true (2 ^ k) (2 ^ 64) b in rw h.1 (λ n w. h.0 (rw w.1 (IsUtf8-from_ascii (decimal n) (IsAscii-decimal n (omega (arith, w.0))))))
natural_is_read k b bs o p (inr h) = rw h.1.1 (natural_read k (leb-true (2 ^ k) (2 ^ 64) b) bs h.0 p h.1.0.0)

pub integer_is_read : (w : Width) → leb (2 ^ hbits w) (2 ^ 63) ≡ true → (bs : List ℕ) (o : Option ℤ) → plain bs ≡ true
    → Parsed {E = ParseIntError} (λ t r. ParsesSigned w 10 t r × ExplainsSignedError 10 t r × HasSignedDigitsIfOk t r) bs o → Reads (Integer w) bs o
integer_is_read w b bs o p (inl h) = let l = leb-true (2 ^ hbits w) (2 ^ 63) b in rw h.1 (λ z t. h.0 (rw t.1 (IsUtf8-from_ascii (signed_decimal z) (IsAscii-signed z (omega (arith, t.0.sfits))))))
integer_is_read w b bs o p (inr h) = rw h.1.1 (integer_read w (leb-true (2 ^ hbits w) (2 ^ 63) b) bs h.0 p h.1.0.0)

-- what is printed is plain
pub natural_is_plain : (k : ℕ) → leb (2 ^ k) (2 ^ 64) ≡ true → (n : ℕ) (bs : List ℕ) → Natural k n bs → plain bs ≡ true
natural_is_plain k b n bs w = let l = leb-true (2 ^ k) (2 ^ 64) b in ap plain w.1 ∙ plain-decimal n (omega (arith, w.0))

pub integer_is_plain : (w : Width) → leb (2 ^ hbits w) (2 ^ 63) ≡ true → (z : ℤ) (bs : List ℕ) → Integer w z bs → plain bs ≡ true
integer_is_plain w b z bs t = let l = leb-true (2 ^ hbits w) (2 ^ 63) b in ap plain t.1 ∙ plain_signed z (omega (arith, t.0.sfits))
