-- A walk tells what its filter's tree means.
use Rattle.std.proofs.Common.{ℕ, Ok, Err, Result, refl, ap, subst, sym, inl, inr}
use Rattle.values.specs.declared.refusals.Refused.{Refused}
use Rattle.filters.specs.Trees.{mapped}
use Rattle.filters.specs.Meanings.{Meaning, then, walked}
use Rattle.filters.specs.Placed.{Placed, constant_at, condition_at, and_node_at, or_node_at, not_node_at, In, tree}
use Rattle.walk.specs.declared.faults.Fault.{Fault}
use Rattle.walk.specs.Faults.{at_node}
use Rattle.walk.specs.Visits.{visited, Tells}

module _ {A X : Type 0} (p : Placed X) where
  here : (n : ℕ) (q : Result A Fault) → In n p → Tells p q (at_node n q)
  here n (Ok x) i = refl
  here n (Err f) i = (f, refl, refl, i)

  after : (q : Placed X) → ((k : ℕ) → In k q → In k p) → (w : Result A Fault) (r : Result A Refused) (f : A → Result A Fault) (g : A → Result A Refused) → Tells q w r → ((x : A) → Tells p (f x) (g x)) → Tells p (then w f) (then r g)
  after q up w (Ok x) f g t h = subst (λ v. Tells p (then v f) (g x)) (sym t) (h x)
  after q up w (Err e) f g t h = (t.0, ap (λ v. then v f) t.1, t.2, up e.place t.3)

module _ {A C X : Type 0} (m : Meaning A Fault C) (read : X → C) where
  pub tells : (p : Placed X) → Tells p (walked m (mapped read (tree p))) (visited m read p)
  tells (constant_at n b) = let p : Placed X = constant_at n b in here p n (m.always b) refl
  tells (condition_at n c) = let p = condition_at n c in here p n (m.on (read c)) refl
  tells (and_node_at n l r) =
      let p = and_node_at n l r in
      after p l (λ k i. inr (inl i)) (walked m (mapped read (tree l))) (visited m read l) _ _ (tells l)
      (λ x. after p r (λ k i. inr (inr i)) (walked m (mapped read (tree r))) (visited m read r) _ _ (tells r)
      (λ y. here p n (m.both x y) (inl refl)))
  tells (or_node_at n l r) =
      let p = or_node_at n l r in
      after p l (λ k i. inr (inl i)) (walked m (mapped read (tree l))) (visited m read l) _ _ (tells l)
      (λ x. after p r (λ k i. inr (inr i)) (walked m (mapped read (tree r))) (visited m read r) _ _ (tells r)
      (λ y. here p n (m.either x y) (inl refl)))
  tells (not_node_at n q) =
      let p = not_node_at n q in
      after p q (λ k i. inr i) (walked m (mapped read (tree q))) (visited m read q) _ _ (tells q)
      (λ x. here p n (m.other x) (inl refl))
