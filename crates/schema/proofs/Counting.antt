-- Fields of one parent.
use Rattle.std.proofs.Common.{◌≡◌, ℕ, zero, suc, Bool, eqb, Some, None, Option, List, refl}
use Rattle.std.specs.Option.{option_eq}
use Rattle.schema.specs.declared.fields.Field.{Field}
use Rattle.schema.specs.Lines.{parent_of, same_parent, tally, place}

-- `==` tells whether two parents are one
same_parent-eq : (a b : Option ℕ) → option_eq eqb a b ≡ same_parent a b
same_parent-eq None None = refl
same_parent-eq None (Some q) = refl
same_parent-eq (Some p) None = refl
same_parent-eq (Some p) (Some q) = refl

tally_same : (p q : ℕ → Bool) (n : ℕ) → ((j : ℕ) → p j ≡ q j) → tally p n ≡ tally q n
tally_same p q zero s = refl
tally_same p q (suc n) s = rw (tally_same p q n s, s n) refl

pub place_by_eq : (fs : List Field) (i : ℕ) → tally (λ j. option_eq eqb (parent_of fs j) (parent_of fs i)) i ≡ place fs i
place_by_eq fs i = tally_same _ _ i (λ j. same_parent-eq (parent_of fs j) (parent_of fs i))
