-- A kind is told by its place in the list of kinds and its length, so the test of kinds tells equal kinds.
use Rattle.std.proofs.Common.{◌≡◌, ℕ, true, cond, eqb, Decides, sym, refl, ap, ap₂, ◌∙◌}
use Rattle.std.proofs.lemmas.Bool.{and_parts, and_from, eqb-true, eq-eqb}
use Rattle.values.specs.declared.kinds.Kind.{Kind}
use Rattle.values.specs.declared.kinds.Kind.TheVariants as K
use Rattle.values.specs.Kinds.{place_of, length_of, same_kind}

abbrev kind_at : ℕ → ℕ → Kind
kind_at p w = cond (eqb p 0) K.Boolean (cond (eqb p 1) K.Int (cond (eqb p 2) K.Date (cond (eqb p 3) K.Long (cond (eqb p 4) K.Time (cond (eqb p 5) K.Timestamp (cond (eqb p 6) K.Timestamptz (cond (eqb p 7) K.TimestampNs (cond (eqb p 8) K.TimestamptzNs (cond (eqb p 9) K.Float (cond (eqb p 10) K.Double (cond (eqb p 11) K.String (cond (eqb p 12) (K.Fixed w) K.Binary))))))))))))

told : (k : Kind) → kind_at (place_of k) (length_of k) ≡ k
told K.Boolean = refl
told K.Int = refl
told K.Date = refl
told K.Long = refl
told K.Time = refl
told K.Timestamp = refl
told K.Timestamptz = refl
told K.TimestampNs = refl
told K.TimestamptzNs = refl
told K.Float = refl
told K.Double = refl
told K.String = refl
told (K.Fixed w) = refl
told K.Binary = refl

pub one_kind : (a b : Kind) → same_kind a b ≡ true → a ≡ b
one_kind a b h =
    let p = and_parts (eqb (place_of a) (place_of b)) (eqb (length_of a) (length_of b)) h in
    sym (told a) ∙ ap₂ kind_at (eqb-true _ _ p.0) (eqb-true _ _ p.1) ∙ told b

pub kind_itself : (k : Kind) → same_kind k k ≡ true
kind_itself k = and_from (eqb (place_of k) (place_of k)) (eqb (length_of k) (length_of k)) (eq-eqb _ _ refl) (eq-eqb _ _ refl)

pub same_kind-tells : (a b : Kind) → Decides (same_kind a b) (a ≡ b)
same_kind-tells a b = (one_kind a b, λ e. ap (same_kind a) (sym e) ∙ kind_itself a)
