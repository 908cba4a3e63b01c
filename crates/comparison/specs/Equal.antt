-- The test of equality tells equal contents and equal kinds, so it has the laws of equality.
use Rattle.std.specs.Prelude.{◌≡◌, ℕ, true, cond, ℤ, pos, negsuc, Decides, refl}
use Rattle.std.proofs.Common.{eqb, sym, ap, ◌∙◌, subst, arith}
use Rattle.std.proofs.lemmas.Bool.{and_parts, and_from, eqb-true, eq-eqb}
use Rattle.std.proofs.lemmas.Slice.Eq.{bytes_eq-Decides}
use Rattle.std.specs.Cmp.{IsPartialEquivalence, IsEquivalence, both_ways, partial_equiv_from_equiv}
use Rattle.std.specs.Str.{bytes_eq}
use Rattle.values.specs.Contents.{Numeric, boolean, int, long, float, double, Textual, string, binary, Content, number, bytes, above_max, below_min, Datum}
use Rattle.values.specs.Kept.{numeric_code, textual_code}
use Rattle.values.specs.Kinds.{same_kind}
use Rattle.values.proofs.KindsTold.{same_kind-tells}
use Rattle.comparison.specs.Equality.{same_number, same_content, same_datum}

-- ---- the codes tell the storages

abbrev numeric_at : ℕ → Numeric
numeric_at n = cond (eqb n 0) boolean (cond (eqb n 1) int (cond (eqb n 2) long (cond (eqb n 3) float double)))

numeric-told : (s : Numeric) → numeric_at (numeric_code s) ≡ s
numeric-told boolean = refl
numeric-told int = refl
numeric-told long = refl
numeric-told float = refl
numeric-told double = refl

pub one-numeric : (s r : Numeric) → numeric_code s ≡ numeric_code r → s ≡ r
one-numeric s r e = sym (numeric-told s) ∙ ap numeric_at e ∙ numeric-told r

pub one_textual : (s r : Textual) → textual_code s ≡ textual_code r → s ≡ r
one_textual string string e = refl
one_textual string binary e = absurd (omega arith)
one_textual binary string e = absurd (omega arith)
one_textual binary binary e = refl

-- ---- contents

number_tells : (a b : ℤ) → Decides (same_number a b) (a ≡ b)
number_tells (pos a) (pos b) = (λ h. ap pos (eqb-true a b h), λ e. eq-eqb a b (cc))
number_tells (pos a) (negsuc b) = (λ h. absurd (cc), λ e. absurd (cc))
number_tells (negsuc a) (pos b) = (λ h. absurd (cc), λ e. absurd (cc))
number_tells (negsuc a) (negsuc b) = (λ h. ap negsuc (eqb-true a b h), λ e. eq-eqb a b (cc))

content_itself : (x : Content) → same_content x x ≡ true
content_itself (number s m) = and_from (eqb (numeric_code s) (numeric_code s)) (same_number m m) (eq-eqb _ _ refl) ((number_tells m m).1 refl)
content_itself (bytes s a) = and_from (eqb (textual_code s) (textual_code s)) (bytes_eq a a) (eq-eqb _ _ refl) ((bytes_eq-Decides a a).1 refl)
content_itself above_max = refl
content_itself below_min = refl

content-one : (x y : Content) → same_content x y ≡ true → x ≡ y
content-one (number s m) (number r n) h =
    let w = and_parts (eqb (numeric_code s) (numeric_code r)) (same_number m n) h in
    ap (λ (c : Numeric). number c m) (one-numeric s r (eqb-true _ _ w.0)) ∙ ap (number r) ((number_tells m n).0 w.1)
content-one (bytes s a) (bytes r b) h =
    let w = and_parts (eqb (textual_code s) (textual_code r)) (bytes_eq a b) h in
    ap (λ (c : Textual). bytes c a) (one_textual s r (eqb-true _ _ w.0)) ∙ ap (bytes r) ((bytes_eq-Decides a b).0 w.1)
content-one above_max above_max h = refl
content-one below_min below_min h = refl
content-one x y h = absurd (cc)

pub content_tells : (x y : Content) → Decides (same_content x y) (x ≡ y)
content_tells x y = (content-one x y, λ e. subst (λ (z : Content). same_content x z ≡ true) e (content_itself x))

-- ---- values

pub same_datum-tells : (a b : Datum) → Decides (same_datum a b) (a ≡ b)
same_datum-tells a b = (
  λ t.
      let p = and_parts (same_kind a.kind b.kind) (same_content a.content b.content) t in
      made ((same_kind-tells a.kind b.kind).0 p.0) ((content_tells a.content b.content).0 p.1),
  λ e.
      and_from _ _
      ((same_kind-tells a.kind b.kind).1 (ap (λ (d : Datum). d.kind) e))
      ((content_tells a.content b.content).1 (ap (λ (d : Datum). d.content) e)),
)
  where
    made : a.kind ≡ b.kind → a.content ≡ b.content → a ≡ b
    made k c = λ i. record { kind = k i; content = c i }

pub datum_equivalence : IsEquivalence same_datum
datum_equivalence =
    record {
      refl = λ x. (same_datum-tells x x).1 refl;
      symm = λ x y. both_ways _ _ (λ h. (same_datum-tells y x).1 (sym ((same_datum-tells x y).0 h))) (λ h. (same_datum-tells x y).1 (sym ((same_datum-tells y x).0 h)));
      congr = λ x y z h. ap (λ w. same_datum w z) ((same_datum-tells x y).0 h);
    }

pub datum_per : IsPartialEquivalence same_datum
datum_per = partial_equiv_from_equiv datum_equivalence
