-- The order and the equality of contents, from those of numbers and of bytes.
use Rattle.std.proofs.Common.{◌≡◌, ℕ, ◌<◌, ◌≤◌, Bool, true, false, cond, eqb, Some, None, Option, Ordering, Less, Equal, Greater, sym, refl, ap, ◌∙◌, subst, arith, lit<, lit≤}
use Rattle.std.proofs.lemmas.Bool.Decides.{nat_tests}
use Rattle.std.proofs.lemmas.Bool.{eqb-true, eq-eqb}
use Rattle.values.specs.Contents.{Numeric, boolean, int, long, float, double, Textual, string, binary, Content, number, bytes, above_max, below_min}
use Rattle.values.specs.Kept.{numeric_code, textual_code}
use Rattle.comparison.specs.Orders.{number_order, byte_order, content_order}
use Rattle.comparison.specs.Equal.{one-numeric, one_textual}
use Rattle.comparison.specs.Laws.{turned, turned_answer}
use Rattle.comparison.proofs.Lawful.{Lawful, numbers, byte_lists}

-- ---- answers that depend on a test

pub when : {A : Type 0} (b : Bool) (x : Option A) (o : A) → cond b x None ≡ Some o → (b ≡ true) × (x ≡ Some o)
when true x o h = (refl, h)
when false x o h = absurd (cc)

some_injective : {A : Type 0} (x y : A) → Some x ≡ Some y → x ≡ y
some_injective x y h = cc

-- ---- the codes tell the storages

pub numeric_low : (s : Numeric) → numeric_code s < 5
numeric_low boolean = lit< tt
numeric_low int = lit< tt
numeric_low long = lit< tt
numeric_low float = lit< tt
numeric_low double = lit< tt

pub textual_high : (s : Textual) → 5 ≤ textual_code s
textual_high string = lit≤ tt
textual_high binary = lit≤ tt

-- ---- turning round

turned-when : (s r : ℕ) (o p : Ordering) → p ≡ turned o → cond (eqb r s) (Some p) None ≡ turned_answer (cond (eqb s r) (Some o) None)
turned-when s r o p e = rw (sym (swapped s r)) (go (eqb s r) o p e)
  where
    swapped : (s r : ℕ) → eqb s r ≡ eqb r s
    swapped s r = grind (arith, nat_tests)

    go : (b : Bool) (o p : Ordering) → p ≡ turned o → cond b (Some p) None ≡ turned_answer (cond b (Some o) None)
    go true o p e = ap Some e
    go false o p e = refl

pub content_turns : (x y : Content) → content_order y x ≡ turned_answer (content_order x y)
content_turns (number s m) (number r n) = turned-when (numeric_code s) (numeric_code r) _ _ (numbers.turns m n)
content_turns (bytes s a) (bytes r b) = turned-when (textual_code s) (textual_code r) _ _ (byte_lists.turns a b)
content_turns (number s m) y = refl
content_turns (bytes s a) y = refl
content_turns above_max (number r n) = refl
content_turns above_max (bytes r b) = refl
content_turns above_max above_max = refl
content_turns above_max below_min = refl
content_turns below_min (number r n) = refl
content_turns below_min (bytes r b) = refl
content_turns below_min above_max = refl
content_turns below_min below_min = refl

-- ---- equal contents

pub content_equal : (x y : Content) → content_order x y ≡ Some Equal → x ≡ y
content_equal (number s m) (number r n) h =
    let w = when (eqb (numeric_code s) (numeric_code r)) (Some (number_order m n)) Equal h in
    ap (λ (c : Numeric). number c m) (one-numeric s r (eqb-true _ _ w.0)) ∙ ap (number r) (numbers.equal m n (some_injective _ _ w.1))
content_equal (bytes s a) (bytes r b) h =
    let w = when (eqb (textual_code s) (textual_code r)) (Some (byte_order a b)) Equal h in
    ap (λ (c : Textual). bytes c a) (one_textual s r (eqb-true _ _ w.0)) ∙ ap (bytes r) (byte_lists.equal a b (some_injective _ _ w.1))
content_equal x y h = cc

-- a content that compares with itself is equal to itself
pub content_same : (x : Content) (o : Ordering) → content_order x x ≡ Some o → o ≡ Equal
content_same (number s m) o h =
    let w = when (eqb (numeric_code s) (numeric_code s)) (Some (number_order m m)) o h in sym (some_injective _ _ w.1) ∙ numbers.same m
content_same (bytes s a) o h =
    let w = when (eqb (textual_code s) (textual_code s)) (Some (byte_order a a)) o h in sym (some_injective _ _ w.1) ∙ byte_lists.same a
content_same x o h = cc

-- ---- two steps, neither of them backward

abbrev pub Forward : Ordering → Type 0
Forward Less = Unit {0}
Forward Equal = Unit {0}
Forward Greater = ⊥

abbrev pub then : Ordering → Ordering → Ordering
then Less p = Less
then Equal p = p
then Greater p = Greater

law_joins : {X : Type 0} (f : X → X → Ordering) → Lawful f → (x y z : X) (o p : Ordering) → f x y ≡ o → f y z ≡ p → Forward o → Forward p → f x z ≡ then o p
law_joins f L x y z Less Less h k u v = L.chain x y z h k
law_joins {X} f L x y z Less Equal h k u v = subst (λ (w : X). f x w ≡ Less) (L.equal y z k) h
law_joins f L x y z Less Greater h k u v = absurd v
law_joins {X} f L x y z Equal p h k u v = subst (λ (w : X). f w z ≡ p) (sym (L.equal x y h)) k
law_joins f L x y z Greater p h k u v = absurd u

joins_when : {X : Type 0} (f : X → X → Ordering) → Lawful f → (a b c : ℕ) (x y z : X) (o p : Ordering)
    → cond (eqb a b) (Some (f x y)) None ≡ Some o → cond (eqb b c) (Some (f y z)) None ≡ Some p → Forward o → Forward p
    → cond (eqb a c) (Some (f x z)) None ≡ Some (then o p)
joins_when f L a b c x y z o p h k u v =
    let m = when (eqb a b) (Some (f x y)) o h in
    let n = when (eqb b c) (Some (f y z)) p k in
    let e : eqb a c ≡ true = eq-eqb a c (eqb-true a b m.0 ∙ eqb-true b c n.0) in
    ap (λ (t : Bool). cond t (Some (f x z)) None) e ∙ ap Some (law_joins f L x y z o p (some_injective _ _ m.1) (some_injective _ _ n.1) u v)

pub content_joins : (x y z : Content) (o p : Ordering) → content_order x y ≡ Some o → content_order y z ≡ Some p → Forward o → Forward p → content_order x z ≡ Some (then o p)
content_joins (number s m) (number r n) (number q k) o p g h u v = joins_when number_order numbers (numeric_code s) (numeric_code r) (numeric_code q) m n k o p g h u v
content_joins (bytes s a) (bytes r b) (bytes q c) o p g h u v = joins_when byte_order byte_lists (textual_code s) (textual_code r) (textual_code q) a b c o p g h u v
content_joins x y z o p g h u v = cc
