-- What a value is, apart from where its text lies.
use Rattle.std.specs.Prelude.{ℕ, ◌+◌, Bool, true, cond, List, take, drop, ℤ, pos, nat_le}
use Rattle.std.specs.Float.{binary32, binary64}
use Rattle.floats.specs.Patterns.{rank}
use Rattle.values.specs.declared.kinds.Kind.{Kind}
use Rattle.values.specs.declared.literals.Span.{Span}
use Rattle.values.specs.declared.literals.Value.{Value}
use Rattle.values.specs.declared.literals.Value.TheVariants as V
use Rattle.values.specs.declared.literals.Literal.{Literal}

-- the storages that hold a number, and those that hold bytes
pub data Numeric : Type 0 where
  boolean : Numeric
  int : Numeric
  long : Numeric
  float : Numeric
  double : Numeric

pub data Textual : Type 0 where
  string : Textual
  binary : Textual

-- a number, bytes, or an extreme: a boolean's number is 0 or 1, a floating number's is the place of its bit pattern
-- among all of its format's
pub data Content : Type 0 where
  number : Numeric → ℤ → Content
  bytes : Textual → List ℕ → Content
  above_max : Content
  below_min : Content

-- a content under a kind, which need not be one that the content's storage keeps
pub record Datum : Type 0 where
  pub kind : Kind
  pub content : Content

-- the bytes at a span of a text: fewer than its length where it passes the text's end
abbrev pub bytes_at : List ℕ → Span → List ℕ
bytes_at t s = take s.len (drop s.start t)

-- the span lies inside a text of n bytes
abbrev pub inside : ℕ → Span → Bool
inside n s = nat_le (s.start + s.len) n

abbrev pub content_of : List ℕ → Value → Content
content_of t (V.Boolean b) = number boolean (cond b (pos 1) (pos 0))
content_of t (V.Int n) = number int n
content_of t (V.Long n) = number long n
content_of t (V.Float x) = number float (pos (rank binary32 x))
content_of t (V.Double x) = number double (pos (rank binary64 x))
content_of t (V.String s) = bytes string (bytes_at t s)
content_of t (V.Binary s) = bytes binary (bytes_at t s)
content_of t V.AboveMax = above_max
content_of t V.BelowMin = below_min

abbrev pub datum_of : List ℕ → Literal → Datum
datum_of t l = record { kind = l.kind; content = content_of t l.value }

-- the value's text, if it has any, lies inside a text of n bytes
abbrev pub text_inside : ℕ → Value → Bool
text_inside n (V.Boolean b) = true
text_inside n (V.Int i) = true
text_inside n (V.Long i) = true
text_inside n (V.Float x) = true
text_inside n (V.Double x) = true
text_inside n (V.String s) = inside n s
text_inside n (V.Binary s) = inside n s
text_inside n V.AboveMax = true
text_inside n V.BelowMin = true
