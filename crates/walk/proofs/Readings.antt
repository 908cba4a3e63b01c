-- A sound table's conditions, as they are lent to a visitor.
use Rattle.std.proofs.Common.{◌≡◌, ℕ, ◌<◌, Bool, true, false, cond, ◌+◌, List, get_or, take, drop, sym, refl, ap, ◌∙◌, ap₂, arith, get_or-take, get_or-drop}
use Rattle.values.specs.declared.literals.Literal.{Literal}
use Rattle.values.specs.Contents.{datum_of}
use Rattle.filters.specs.Meanings.{Meaning, then}
use Rattle.filters.specs.Placed.{Form, test, Placed, constant_at, condition_at, and_node_at, or_node_at, not_node_at, root, Sound, Holds}
use Rattle.nodes.specs.Operators.{Family, unary as OfUnary, binary as OfBinary, set as OfSet, family_of, in_unary, in_binary, in_set, is_unary, is_binary, is_set}
use Rattle.nodes.specs.Conditions.{unary, binary, among}
use Rattle.nodes.specs.Tables.{Held}
use Rattle.nodes.specs.Soundness.{fits}
use Rattle.nodes.proofs.Order.{both_true}
use Rattle.columns.specs.declared.column.Column.{Column}
use Rattle.columns.specs.Bound.{bound_of}
use Rattle.walk.specs.declared.faults.Fault.{Fault}
use Rattle.walk.specs.Faults.{at_node}
use Rattle.walk.specs.Steps.{lent}
use Rattle.walk.specs.Tests.{nothing, content}
use Rattle.walk.specs.Visits.{visited}

binary_alone : (f : Family) → in_binary f ≡ true → in_unary f ≡ false
binary_alone OfUnary e = sym e ∙ refl
binary_alone OfBinary e = refl
binary_alone OfSet e = refl

set_alone : (f : Family) → in_set f ≡ true → (in_unary f ≡ false) × (in_binary f ≡ false)
set_alone OfUnary e = (sym e ∙ refl, refl)
set_alone OfBinary e = (refl, sym e ∙ refl)
set_alone OfSet e = (refl, refl)

one_literal : (ls : List Literal) (i : ℕ) → get_or (take 1 (drop i ls)) 0 nothing ≡ get_or ls i nothing
one_literal ls i =
    get_or-take 1 (drop i ls) 0 nothing (omega arith)
    ∙ get_or-drop i ls 0 nothing
    ∙ ap (λ k. get_or ls k nothing) (let e : i + 0 ≡ i = omega arith in e)

chosen : {X : Type 0} (b : Bool) (x y : X) → b ≡ true → cond b x y ≡ x
chosen b x y e = ap (λ v. cond v x y) e

passed : {X : Type 0} (b : Bool) (x y : X) → b ≡ false → cond b x y ≡ y
passed b x y e = ap (λ v. cond v x y) e

module _ (within : Column → Bool) (size : ℕ) (us : List Literal) (places text : List ℕ) (ls : List Literal) where
  pub lent_as_held : (c : Held Column) → fits within size us c ≡ true → lent places text ls c ≡ content places text ls c
  lent_as_held (unary o c) h = chosen (is_unary o) _ _ (both_true (is_unary o) (within c) h).0
  lent_as_held (binary o c i) h =
      let b = (both_true (is_binary o) _ h).0 in
      passed (is_unary o) _ _ (binary_alone (family_of o) b)
      ∙ chosen (is_binary o) _ _ b
      ∙ ap (λ l. binary o (bound_of places c) (datum_of text l)) (one_literal ls i)
  lent_as_held (among o c r) h =
      let s = set_alone (family_of o) (both_true (is_set o) _ h).0 in
      passed (is_unary o) _ _ s.0 ∙ passed (is_binary o) _ _ s.1

-- two readings that agree on the conditions of the first so many nodes
module _ {A C X : Type 0} (m : Meaning A Fault C) (f g : X → C) (at : ℕ → Form X) (used : ℕ) (agree : (n : ℕ) (c : X) → n < used → at n ≡ test c → f c ≡ g c) where
  pub visited_alike : (p : Placed X) → Holds at p → Sound p → root p < used → visited m f p ≡ visited m g p
  visited_alike (constant_at n b) h s l = refl
  visited_alike (condition_at n c) h s l = ap (λ d. at_node n (m.on d)) (agree n c l h)
  visited_alike (and_node_at n l r) h s u =
      ap₂ (λ p q. then p (λ x. then q (λ y. at_node n (m.both x y)))) (visited_alike l h.1 s.3 (omega (arith, s.0))) (visited_alike r h.2 s.4 (omega (arith, s.1)))
  visited_alike (or_node_at n l r) h s u =
      ap₂ (λ p q. then p (λ x. then q (λ y. at_node n (m.either x y)))) (visited_alike l h.1 s.3 (omega (arith, s.0))) (visited_alike r h.2 s.4 (omega (arith, s.1)))
  visited_alike (not_node_at n p) h s u = ap (λ q. then q (λ x. at_node n (m.other x))) (visited_alike p h.1 s.1 (omega (arith, s.0)))
