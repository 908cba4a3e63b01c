-- Equality of bytes.
use Rattle.std.specs.Prelude.{◌≡◌, ℕ, true, List, refl}
use Rattle.std.proofs.Common.{sym, ◌∙◌}
use Rattle.std.proofs.lemmas.Slice.Eq.{bytes_eq-Decides}
use Rattle.std.specs.Str.{bytes_eq}

pub bytes_reflexive : (a : List ℕ) → bytes_eq a a ≡ true
bytes_reflexive a = (bytes_eq-Decides a a).1 refl

pub bytes_symmetric : (a b : List ℕ) → bytes_eq a b ≡ true → bytes_eq b a ≡ true
bytes_symmetric a b h = (bytes_eq-Decides b a).1 (sym ((bytes_eq-Decides a b).0 h))

pub bytes_transitive : (a b c : List ℕ) → bytes_eq a b ≡ true → bytes_eq b c ≡ true → bytes_eq a c ≡ true
bytes_transitive a b c h k = (bytes_eq-Decides a c).1 ((bytes_eq-Decides a b).0 h ∙ (bytes_eq-Decides b c).0 k)
