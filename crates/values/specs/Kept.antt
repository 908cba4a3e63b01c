-- When a value is kept as its kind says.
use Rattle.std.specs.Prelude.{ℕ, Bool, true, false, ◌&&◌, [], length, ◌==◌}
use Rattle.values.specs.declared.kinds.Kind.{Kind}
use Rattle.values.specs.declared.kinds.Kind.TheVariants as K
use Rattle.values.specs.declared.kinds.Storage.{Storage}
use Rattle.values.specs.declared.kinds.Storage.TheVariants as S
use Rattle.values.specs.declared.literals.Value.{Value}
use Rattle.values.specs.declared.literals.Value.TheVariants as V
use Rattle.values.specs.declared.literals.Literal.{Literal}
use Rattle.values.specs.Kinds.{storage_of}
use Rattle.values.specs.Contents.{Numeric, boolean, int, long, float, double, Textual, string, binary, Content, number, bytes, above_max, below_min, Datum, content_of}

-- a storage's place in the list of storages
abbrev pub code_of : Storage → ℕ
code_of S.Boolean = 0
code_of S.Int = 1
code_of S.Long = 2
code_of S.Float = 3
code_of S.Double = 4
code_of S.String = 5
code_of S.Binary = 6

abbrev pub numeric_code : Numeric → ℕ
numeric_code boolean = 0
numeric_code int = 1
numeric_code long = 2
numeric_code float = 3
numeric_code double = 4

abbrev pub textual_code : Textual → ℕ
textual_code string = 5
textual_code binary = 6

-- the content is in the storage; an extreme is in none
abbrev pub kept_in : Storage → Content → Bool
kept_in s (number c n) = code_of s == numeric_code c
kept_in s (bytes c b) = code_of s == textual_code c
kept_in s above_max = false
kept_in s below_min = false

-- so many bytes are as many as a fixed has; no other kind has a length
abbrev pub of_length : Kind → ℕ → Bool
of_length K.Boolean m = true
of_length K.Int m = true
of_length K.Date m = true
of_length K.Long m = true
of_length K.Time m = true
of_length K.Timestamp m = true
of_length K.Timestamptz m = true
of_length K.TimestampNs m = true
of_length K.TimestamptzNs m = true
of_length K.Float m = true
of_length K.Double m = true
of_length K.String m = true
of_length (K.Fixed n) m = m == n
of_length K.Binary m = true

abbrev pub length_fits : Kind → Value → Bool
length_fits k (V.Boolean b) = true
length_fits k (V.Int n) = true
length_fits k (V.Long n) = true
length_fits k (V.Float x) = true
length_fits k (V.Double x) = true
length_fits k (V.String s) = of_length k s.len
length_fits k (V.Binary s) = of_length k s.len
length_fits k V.AboveMax = true
length_fits k V.BelowMin = true

-- in the kind's storage and, under a fixed, of its length
abbrev pub well_kept : Literal → Bool
well_kept l = kept_in (storage_of l.kind) (content_of [] l.value) && length_fits l.kind l.value

-- the same of a content
abbrev pub content_fits : Kind → Content → Bool
content_fits k (number c n) = true
content_fits k (bytes c b) = of_length k (length b)
content_fits k above_max = true
content_fits k below_min = true

abbrev pub well_kept_datum : Datum → Bool
well_kept_datum d = kept_in (storage_of d.kind) d.content && content_fits d.kind d.content
