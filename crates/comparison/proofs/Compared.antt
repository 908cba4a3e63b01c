-- The order and the equality of values, from those of their contents.
use Rattle.std.proofs.Common.{◌≡◌, ℕ, ◌-◌, min, Bool, true, false, cond, ◌&&◌, eqb, ltb, Some, None, Option, Ordering, Less, Equal, sym, refl, ap, ◌∙◌, subst, inl, inr, arith}
use Rattle.std.proofs.lemmas.Bool.Decides.{nat_tests}
use Rattle.std.proofs.lemmas.Bool.{and_parts, and_from, eqb-true, eq-eqb}
use Rattle.values.specs.declared.kinds.Kind.{Kind}
use Rattle.values.specs.declared.kinds.Kind.TheVariants as K
use Rattle.values.specs.declared.kinds.Storage.{Storage}
use Rattle.values.specs.Kinds.{storage_of, place_of, same_family}
use Rattle.values.specs.Contents.{Content, number, bytes, above_max, below_min, Datum}
use Rattle.values.specs.Kept.{code_of, numeric_code, textual_code, kept_in}
use Rattle.comparison.specs.Orders.{number_order, byte_order, content_order, in_storage, comparable, compared}
use Rattle.comparison.specs.Laws.{turned_answer, NotAfter, Ordered}
use Rattle.comparison.proofs.Contents.{when, numeric_low, textual_high, content_turns, content_equal, content_same, Forward, then, content_joins}

-- ---- one kind, one storage

abbrev code_at : ℕ → ℕ
code_at p = cond (ltb p 1) 0 (cond (ltb p 3) 1 (cond (ltb p 9) 2 (min (p - 6) 6)))

code_by_place : (k : Kind) → code_of (storage_of k) ≡ code_at (place_of k)
code_by_place K.Boolean = refl
code_by_place K.Int = refl
code_by_place K.Date = refl
code_by_place K.Long = refl
code_by_place K.Time = refl
code_by_place K.Timestamp = refl
code_by_place K.Timestamptz = refl
code_by_place K.TimestampNs = refl
code_by_place K.TimestamptzNs = refl
code_by_place K.Float = refl
code_by_place K.Double = refl
code_by_place K.String = refl
code_by_place (K.Fixed n) = refl
code_by_place K.Binary = refl

one_code : (a b : Kind) → same_family a b ≡ true → code_of (storage_of a) ≡ code_of (storage_of b)
one_code a b h = code_by_place a ∙ ap code_at (eqb-true _ _ h) ∙ sym (code_by_place b)

-- ---- contents in one storage compare

compare_kept : (s r : Storage) (x y : Content) → code_of s ≡ code_of r → kept_in s x ≡ true → kept_in r y ≡ true → (o : Ordering) × (content_order x y ≡ Some o)
compare_kept s r (number c m) (number d n) e p q =
    let t : eqb (numeric_code c) (numeric_code d) ≡ true = eq-eqb _ _ (sym (eqb-true _ _ p) ∙ e ∙ eqb-true _ _ q) in
    (number_order m n, ap (λ (b : Bool). cond b (Some (number_order m n)) None) t)
compare_kept s r (number c m) (bytes d b) e p q =
    absurd (omega (arith, eqb-true (code_of s) (numeric_code c) p, eqb-true (code_of r) (textual_code d) q, numeric_low c, textual_high d, e))
compare_kept s r (number c m) above_max e p q = absurd (cc)
compare_kept s r (number c m) below_min e p q = absurd (cc)
compare_kept s r (bytes c a) (number d n) e p q =
    absurd (omega (arith, eqb-true (code_of s) (textual_code c) p, eqb-true (code_of r) (numeric_code d) q, numeric_low d, textual_high c, e))
compare_kept s r (bytes c a) (bytes d b) e p q =
    let t : eqb (textual_code c) (textual_code d) ≡ true = eq-eqb _ _ (sym (eqb-true _ _ p) ∙ e ∙ eqb-true _ _ q) in
    (byte_order a b, ap (λ (f : Bool). cond f (Some (byte_order a b)) None) t)
compare_kept s r (bytes c a) above_max e p q = absurd (cc)
compare_kept s r (bytes c a) below_min e p q = absurd (cc)
compare_kept s r above_max y e p q = absurd (cc)
compare_kept s r below_min y e p q = absurd (cc)

-- ---- comparable values

pub record Parts (a b : Datum) : Type 0 where
  pub family : same_family a.kind b.kind ≡ true
  pub first : in_storage a ≡ true
  pub second : in_storage b ≡ true

parts : (a b : Datum) → comparable a b ≡ true → Parts a b
parts a b h =
    let p = and_parts (same_family a.kind b.kind) (in_storage a && in_storage b) h in
    let q = and_parts (in_storage a) (in_storage b) p.1 in
    record { family = p.0; first = q.0; second = q.1 }

comparable_joins : (a b c : Datum) → comparable a b ≡ true → comparable b c ≡ true → comparable a c ≡ true
comparable_joins a b c h k =
    let p = parts a b h in
    let q = parts b c k in
    and_from (same_family a.kind c.kind) (in_storage a && in_storage c)
    (eq-eqb _ _ (eqb-true _ _ p.family ∙ eqb-true _ _ q.family))
    (and_from (in_storage a) (in_storage c) p.first q.second)

comparable_turns : (a b : Datum) → comparable b a ≡ comparable a b
comparable_turns a b = go (place_of a.kind) (place_of b.kind) (in_storage a) (in_storage b)
  where
    go : (m n : ℕ) (u v : Bool) → (eqb n m && (v && u)) ≡ (eqb m n && (u && v))
    go m n u v = grind (arith, nat_tests)

pub answer_of : (a b : Datum) → comparable a b ≡ true → compared a b ≡ content_order a.content b.content
answer_of a b h = ap (λ (t : Bool). cond t (content_order a.content b.content) None) h

-- ---- the laws

joins : (a b c : Datum) (o p : Ordering) → compared a b ≡ Some o → compared b c ≡ Some p → Forward o → Forward p → compared a c ≡ Some (then o p)
joins a b c o p h k u v =
    let m = when (comparable a b) (content_order a.content b.content) o h in
    let n = when (comparable b c) (content_order b.content c.content) p k in
    answer_of a c (comparable_joins a b c m.0 n.0) ∙ content_joins a.content b.content c.content o p m.1 n.1 u v

turns : (a b : Datum) → compared b a ≡ turned_answer (compared a b)
turns a b = go (comparable a b) (comparable b a) _ _ (comparable_turns a b) (content_turns a.content b.content)
  where
    go : (p q : Bool) (x y : Option Ordering) → q ≡ p → y ≡ turned_answer x → cond q y None ≡ turned_answer (cond p x None)
    go true q x y e h = ap (λ (t : Bool). cond t y None) e ∙ h
    go false q x y e h = ap (λ (t : Bool). cond t y None) e

answered : (a b : Datum) → comparable a b ≡ true → (o : Ordering) × (compared a b ≡ Some o)
answered a b h =
    let p = parts a b h in
    let w = compare_kept (storage_of a.kind) (storage_of b.kind) a.content b.content (one_code _ _ p.family) p.first p.second in
    (w.0, answer_of a b h ∙ w.1)

one_equal : (a b : Datum) → comparable a b ≡ true → a.content ≡ b.content → compared a b ≡ Some Equal
one_equal a b h e =
    let w = answered a b h in
    let m = when (comparable a b) (content_order a.content b.content) w.0 w.1 in
    w.1 ∙ ap Some (content_same a.content w.0 (subst (λ (x : Content). content_order a.content x ≡ Some w.0) (sym e) m.1))

pub ordered : (a b : Datum) → Ordered a b
ordered a b =
    record {
      answers = answered a b;
      only_comparable = λ o h. (when (comparable a b) (content_order a.content b.content) o h).0;
      antisymmetric = turns a b;
      transitive = λ c. onward c;
      strict_first = λ c h n. elim n [ inl k ↦ joins a b c Less Less h k tt tt | inr k ↦ joins a b c Less Equal h k tt tt ];
      strict_second = λ c n k. elim n [ inl h ↦ joins a b c Less Less h k tt tt | inr h ↦ joins a b c Equal Less h k tt tt ];
      equal_is_one = λ h. content_equal a.content b.content (when (comparable a b) (content_order a.content b.content) Equal h).1;
      one_is_equal = one_equal a b;
    }
  where
    onward : (c : Datum) → NotAfter a b → NotAfter b c → NotAfter a c
    onward c (inl h) (inl k) = inl (joins a b c Less Less h k tt tt)
    onward c (inl h) (inr k) = inl (joins a b c Less Equal h k tt tt)
    onward c (inr h) (inl k) = inl (joins a b c Equal Less h k tt tt)
    onward c (inr h) (inr k) = inr (joins a b c Equal Equal h k tt tt)
