-- What the order of values promises, wherever it answers.
use Rattle.std.specs.Prelude.{◌≡◌, true, ◌⊎◌, Some, None, Option}
use Rattle.std.specs.declared.cmp.Ordering.TheVariants.{Less, Equal, Greater}
use Rattle.std.specs.declared.cmp.Ordering.{Ordering}
use Rattle.values.specs.Contents.{Datum}
use Rattle.comparison.specs.Orders.{comparable, compared}

abbrev pub turned : Ordering → Ordering
turned Less = Greater
turned Equal = Equal
turned Greater = Less

abbrev pub turned_answer : Option Ordering → Option Ordering
turned_answer None = None
turned_answer (Some o) = Some (turned o)

-- b does not come before a
abbrev pub NotAfter : Datum → Datum → Type 0
NotAfter a b = (compared a b ≡ Some Less) ⊎ (compared a b ≡ Some Equal)

-- what holds of a value beside another
pub record Ordered (a b : Datum) : Type 0 where
  -- an answer exactly if the two are comparable
  pub answers : comparable a b ≡ true → (o : Ordering) × (compared a b ≡ Some o)
  pub only_comparable : (o : Ordering) → compared a b ≡ Some o → comparable a b ≡ true
  -- asked the other way round, the answer is turned round
  pub antisymmetric : compared b a ≡ turned_answer (compared a b)
  -- a value that comes not before the second comes not before the first either
  pub transitive : (c : Datum) → NotAfter a b → NotAfter b c → NotAfter a c
  pub strict_first : (c : Datum) → compared a b ≡ Some Less → NotAfter b c → compared a c ≡ Some Less
  pub strict_second : (c : Datum) → NotAfter a b → compared b c ≡ Some Less → compared a c ≡ Some Less
  -- equal are exactly the contents that are one
  pub equal_is_one : compared a b ≡ Some Equal → a.content ≡ b.content
  pub one_is_equal : comparable a b ≡ true → a.content ≡ b.content → compared a b ≡ Some Equal
