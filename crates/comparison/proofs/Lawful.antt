-- What an order of one storage's contents keeps, and that the orders of numbers and of bytes keep it, being the library's.
use Rattle.std.proofs.Common.{◌≡◌, ◌<ℤ◌, Ordering, Less, Equal, Greater, refl, sym, ap, ◌∙◌, subst}
use Rattle.std.proofs.lemmas.Cmp.{int_cmp_total, nat_list_cmp_total, tied_itself, int_ranked}
use Rattle.std.proofs.lemmas.Map.Text.{is_eq-slice_cmp}
use Rattle.std.proofs.lemmas.Slice.Eq.{bytes_eq-Decides}
use Rattle.std.specs.Cmp.{IsTotalOrder}
use Rattle.std.specs.Cmp.Lexicographic.{slice_cmp}
use Rattle.std.specs.Ordering.{MatchOrdering, nat_cmp, int_cmp, is_eq, ordering_reverse}
use Rattle.comparison.specs.Orders.{number_order, byte_order}
use Rattle.comparison.specs.Laws.{turned}
use Rattle.comparison.proofs.ByteOrders.{first_difference}

pub record Lawful {X : Type 0} (f : X → X → Ordering) : Type 0 where
  pub same : (x : X) → f x x ≡ Equal
  pub equal : (x y : X) → f x y ≡ Equal → x ≡ y
  pub turns : (x y : X) → f y x ≡ turned (f x y)
  pub chain : (x y z : X) → f x y ≡ Less → f y z ≡ Less → f x z ≡ Less

-- an order that answers as a total order does, which tells what is equal
of_total : {X : Type 0} (f g : X → X → Ordering) → IsTotalOrder g → ((x y : X) → g x y ≡ f x y) → ((x y : X) → g x y ≡ Equal → x ≡ y) → Lawful f
of_total f g o is tells =
    record {
      same = λ x. sym (is x x) ∙ tied_itself o x;
      equal = λ x y h. tells x y (is x y ∙ h);
      turns = λ x y. sym (is y x) ∙ o.antisymm y x ∙ back (g x y) ∙ ap turned (is x y);
      chain = λ x y z p q. sym (is x z) ∙ o.trans x y z (is x y ∙ p) (is y z ∙ q);
    }
  where
    back : (a : Ordering) → ordering_reverse a ≡ turned a
    back Less = refl
    back Equal = refl
    back Greater = refl

pub numbers : Lawful number_order
numbers =
    of_total number_order int_cmp int_cmp_total (λ x y. refl)
    (λ x y h. subst (λ (o : Ordering). MatchOrdering o (x <ℤ y) (x ≡ y) (y <ℤ x)) h (int_ranked x y (int_cmp x y) refl))

pub byte_lists : Lawful byte_order
byte_lists =
    of_total byte_order (slice_cmp nat_cmp) nat_list_cmp_total first_difference
    (λ x y h. (bytes_eq-Decides x y).0 (sym (is_eq-slice_cmp x y) ∙ ap is_eq h))
