-- The test of literals has the laws of equality.
use Rattle.std.specs.Prelude.{◌≡◌, ℕ, Bool, true, false, List, Decides, refl}
use Rattle.std.proofs.Common.{◌∙◌, sym}
use Rattle.values.specs.declared.literals.Literal.{Literal}
use Rattle.values.specs.Contents.{datum_of}
use Rattle.comparison.specs.Equal.{datum_equivalence, datum_per}
use Rattle.book.specs.Equality.{same_literal}

-- two tests of one thing
pub same_test : (r q : Bool) (P : Type 0) → Decides r P → Decides q P → r ≡ q
same_test true q P d e = sym (e.1 (d.0 refl))
same_test false true P d e = d.1 (e.0 refl)
same_test false false P d e = refl

module _ (t : List ℕ) where
  pub literal_reflexive : (x : Literal) → same_literal t x x ≡ true
  literal_reflexive x = datum_equivalence.refl (datum_of t x)

  pub literal_symmetric : (x y : Literal) → same_literal t x y ≡ true → same_literal t y x ≡ true
  literal_symmetric x y h = datum_equivalence.symm (datum_of t y) (datum_of t x) ∙ h

  pub literal_transitive : (x y z : Literal) → same_literal t x y ≡ true → same_literal t y z ≡ true → same_literal t x z ≡ true
  literal_transitive x y z h i = datum_per.trans (datum_of t x) (datum_of t y) (datum_of t z) h i
