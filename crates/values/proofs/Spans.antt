-- A place that passes the end of its text.
use Rattle.std.proofs.Common.{◌≡◌, ℕ, ◌+◌, ◌-◌, ◌≤◌, min, Bool, true, ◌&&◌, leb, List, [], length, take, drop, sym, refl, ap, ◌∙◌, inl, inr, arith, length-drop, length-take, take_all}
use Rattle.std.proofs.lemmas.List.{drop_all}
use Rattle.std.proofs.lemmas.Bool.{cases_lt, leb-true}
use Rattle.values.specs.declared.kinds.Kind.{Kind}
use Rattle.values.specs.declared.kinds.Storage.{Storage}
use Rattle.values.specs.declared.literals.Literal.{Literal}
use Rattle.values.specs.declared.literals.Value.{Value}
use Rattle.values.specs.declared.literals.Value.TheVariants as V
use Rattle.values.specs.Kinds.{storage_of}
use Rattle.values.specs.Contents.{content_of, text_inside}
use Rattle.values.specs.Kept.{kept_in, of_length, length_fits, content_fits}

-- cut at the text's end, it holds the bytes that were there
pub clipped : (t : List ℕ) (s l a m : ℕ) → a ≡ min s (length t) → m ≡ min l (length t - a) → take (a + m - a) (drop a t) ≡ take l (drop s t)
clipped t s l a m p q =
    elim (cases_lt (length t) s) [
      | inl h ↦ (rw (drop_all a t (omega arith), drop_all s t (omega arith)) (nothing (a + m - a) ∙ sym (nothing l)))
      | inr h ↦
          (let e : a ≡ s = omega arith in
          elim (cases_lt (length t) (s + l)) [
            | inl g ↦ (rw e (take_all (s + m - s) (drop s t) (simp length-drop (omega arith)) ∙ sym (take_all l (drop s t) (simp length-drop (omega arith)))))
            | inr g ↦ (let f : s + m - s ≡ l = omega arith in rw (e, f))
          ])
    ]
  where
    nothing : (n : ℕ) → take {A = ℕ} n [] ≡ []
    nothing n = take_all n [] (omega arith)

-- a place inside its text has all its bytes
pub whole : (t : List ℕ) (s l : ℕ) → leb (s + l) (length t) ≡ true → length (take l (drop s t)) ≡ l
whole t s l h = let g : s + l ≤ length t = leb-true (s + l) (length t) h in simp (length-take, length-drop) (omega arith)

-- so a value's length may be read off its place or off its bytes
pub same_length : (k : Kind) (v : Value) (t : List ℕ) → text_inside (length t) v ≡ true → length_fits k v ≡ content_fits k (content_of t v)
same_length k (V.Boolean b) t h = refl
same_length k (V.Int n) t h = refl
same_length k (V.Long n) t h = refl
same_length k (V.Float x) t h = refl
same_length k (V.Double x) t h = refl
same_length k (V.String s) t h = ap (of_length k) (sym (whole t s.start s.len h))
same_length k (V.Binary s) t h = ap (of_length k) (sym (whole t s.start s.len h))
same_length k V.AboveMax t h = refl
same_length k V.BelowMin t h = refl

-- what is kept in the kind's storage is kept as its kind says where its length fits
pub then_length : (l : Literal) (s : Storage) (t : List ℕ) (y : Bool) → s ≡ storage_of l.kind → true ≡ kept_in s (content_of t l.value) → y ≡ length_fits l.kind l.value
    → y ≡ (kept_in (storage_of l.kind) (content_of t l.value) && length_fits l.kind l.value)
then_length l s t y p h e =
    e ∙ ap (λ (b : Bool). b && length_fits l.kind l.value) (h ∙ ap (λ (r : Storage). kept_in r (content_of t l.value)) p)
