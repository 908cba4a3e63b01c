-- Which of two values comes first.
use Rattle.std.specs.Prelude.{ℕ, Bool, cond, ◌&&◌, List, [], ◌∷◌, ℤ, Some, None, Option, ◌==◌, int_lt, nat_lt}
use Rattle.std.specs.declared.cmp.Ordering.TheVariants.{Less, Equal, Greater}
use Rattle.std.specs.declared.cmp.Ordering.{Ordering}
use Rattle.values.specs.Kinds.{storage_of, same_family}
use Rattle.values.specs.Contents.{Numeric, Textual, Content, number, bytes, above_max, below_min, Datum}
use Rattle.values.specs.Kept.{numeric_code, textual_code, kept_in}

abbrev pub number_order : ℤ → ℤ → Ordering
number_order a b = cond (int_lt a b) Less (cond (int_lt b a) Greater Equal)

-- by the first difference, a shorter prefix first
abbrev pub byte_order : List ℕ → List ℕ → Ordering
byte_order [] [] = Equal
byte_order [] (y ∷ ys) = Less
byte_order (x ∷ xs) [] = Greater
byte_order (x ∷ xs) (y ∷ ys) = cond (nat_lt x y) Less (cond (nat_lt y x) Greater (byte_order xs ys))

abbrev pub number_against : Numeric → ℤ → Content → Option Ordering
number_against s m (number r n) = cond (numeric_code s == numeric_code r) (Some (number_order m n)) None
number_against s m (bytes r b) = None
number_against s m above_max = None
number_against s m below_min = None

abbrev pub bytes_against : Textual → List ℕ → Content → Option Ordering
bytes_against s a (number r n) = None
bytes_against s a (bytes r b) = cond (textual_code s == textual_code r) (Some (byte_order a b)) None
bytes_against s a above_max = None
bytes_against s a below_min = None

-- two contents of one storage; an extreme compares with nothing
abbrev pub content_order : Content → Content → Option Ordering
content_order (number s m) c = number_against s m c
content_order (bytes s a) c = bytes_against s a c
content_order above_max c = None
content_order below_min c = None

-- in its kind's storage
abbrev pub in_storage : Datum → Bool
in_storage d = kept_in (storage_of d.kind) d.content

-- two values compare if of one kind, fixed lengths aside, and both in its storage
abbrev pub comparable : Datum → Datum → Bool
comparable a b = same_family a.kind b.kind && (in_storage a && in_storage b)

abbrev pub compared : Datum → Datum → Option Ordering
compared a b = cond (comparable a b) (content_order a.content b.content) None
