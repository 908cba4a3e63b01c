-- When two values are equal, as a test that computes; it is proved to tell equal data.
use Rattle.std.specs.Prelude.{ℕ, Bool, true, false, ◌&&◌, ◌||◌, List, ℤ, pos, negsuc, ◌==◌}
use Rattle.std.specs.Str.{bytes_eq}
use Rattle.values.specs.Contents.{Numeric, Textual, Content, number, bytes, above_max, below_min, Datum}
use Rattle.values.specs.Kinds.{same_kind}
use Rattle.values.specs.Kept.{numeric_code, textual_code}

abbrev pub same_number : ℤ → ℤ → Bool
same_number (pos a) (pos b) = a == b
same_number (pos a) (negsuc b) = false
same_number (negsuc a) (pos b) = false
same_number (negsuc a) (negsuc b) = a == b

abbrev pub is_number : Numeric → ℤ → Content → Bool
is_number s m (number r n) = numeric_code s == numeric_code r && same_number m n
is_number s m (bytes r b) = false
is_number s m above_max = false
is_number s m below_min = false

abbrev pub is_bytes : Textual → List ℕ → Content → Bool
is_bytes s a (number r n) = false
is_bytes s a (bytes r b) = textual_code s == textual_code r && bytes_eq a b
is_bytes s a above_max = false
is_bytes s a below_min = false

abbrev pub is_above_max : Content → Bool
is_above_max (number r n) = false
is_above_max (bytes r b) = false
is_above_max above_max = true
is_above_max below_min = false

abbrev pub is_below_min : Content → Bool
is_below_min (number r n) = false
is_below_min (bytes r b) = false
is_below_min above_max = false
is_below_min below_min = true

abbrev pub same_content : Content → Content → Bool
same_content (number s m) c = is_number s m c
same_content (bytes s a) c = is_bytes s a c
same_content above_max c = is_above_max c
same_content below_min c = is_below_min c

-- both above every value, or both below
abbrev pub same_extreme : Content → Content → Bool
same_extreme a b = (is_above_max a && is_above_max b) || (is_below_min a && is_below_min b)

-- kind, storage and content agree
abbrev pub same_datum : Datum → Datum → Bool
same_datum a b = same_kind a.kind b.kind && same_content a.content b.content
