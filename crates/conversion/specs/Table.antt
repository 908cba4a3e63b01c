-- What a value becomes in a column, by the storage that it has and the kind that the column has.
use Rattle.std.specs.Prelude.{◌/◌, cond, ℤ, pos, negsuc, Ok, Err, Result, int_lt}
use Rattle.values.specs.declared.kinds.Kind.{Kind}
use Rattle.values.specs.declared.kinds.Kind.TheVariants as K
use Rattle.values.specs.Kinds.{same_kind}
use Rattle.values.specs.Contents.{Numeric, boolean, int, long, float, double, string, binary, Content, number, bytes, above_max, below_min, Datum}
use Rattle.conversion.specs.declared.convert.Misfit.{Misfit}
use Rattle.conversion.specs.declared.convert.Misfit.TheVariants.{NotConvertible, TextNotRead}

-- what becomes of a number, and of text
pub data Rule : Type 0 where
  -- it stays, if its kind and fixed length are the column's
  stays : Rule
  -- the same number, in the storage named
  as_is : Numeric → Rule
  -- an int, or beyond every int
  narrows : Rule
  -- microseconds, by the unit that its own kind counts in
  stamps : Rule
  -- text, which is not read
  unread : Rule

pub record Rules : Type 0 where
  pub of_int : Rule
  pub of_long : Rule
  pub of_string : Rule

abbrev rules : Rule → Rule → Rule → Rules
rules i l s = record { of_int = i; of_long = l; of_string = s }

-- the column's kind: what Int storage, Long storage and String storage become
abbrev pub table : Kind → Rules
table K.Boolean = rules stays stays unread
table K.Int = rules (as_is int) narrows unread
table K.Date = rules (as_is int) stays stays
table K.Long = rules (as_is long) stays unread
table K.Time = rules stays stays stays
table K.Timestamp = rules stays stamps unread
table K.Timestamptz = rules stays stamps unread
table K.TimestampNs = rules stays stays stays
table K.TimestamptzNs = rules stays stays stays
table K.Float = rules stays stays stays
table K.Double = rules stays stays stays
table K.String = rules stays stays stays
table (K.Fixed n) = rules stays stays stays
table K.Binary = rules stays stays stays

abbrev pub at_kind : Kind → Content → Result Datum Misfit
at_kind k c = Ok (record { kind = k; content = c })

-- an equal kind and fixed length keeps the value
abbrev pub kept : Datum → Kind → Result Datum Misfit
kept d k = cond (same_kind d.kind k) (Ok d) (Err NotConvertible)

-- above 2147483647 and below -2147483648 an extreme
abbrev pub narrowed : ℤ → Content
narrowed n = cond (int_lt (pos 2147483647) n) above_max (cond (int_lt n (negsuc 2147483647)) below_min (number int n))

-- thousandths, rounded down
abbrev pub micros : ℤ → ℤ
micros (pos n) = pos (n / 1000)
micros (negsuc n) = negsuc (n / 1000)

-- microseconds since the epoch, by the kind that the number had: a time of day is none
abbrev pub stamped : Kind → ℤ → Result ℤ Misfit
stamped K.Boolean n = Ok n
stamped K.Int n = Ok n
stamped K.Date n = Ok n
stamped K.Long n = Ok n
stamped K.Time n = Err NotConvertible
stamped K.Timestamp n = Ok n
stamped K.Timestamptz n = Ok n
stamped K.TimestampNs n = Ok (micros n)
stamped K.TimestamptzNs n = Ok (micros n)
stamped K.Float n = Ok n
stamped K.Double n = Ok n
stamped K.String n = Ok n
stamped (K.Fixed w) n = Ok n
stamped K.Binary n = Ok n

abbrev pub stamp_at : Kind → Result ℤ Misfit → Result Datum Misfit
stamp_at k (Ok n) = at_kind k (number long n)
stamp_at k (Err m) = Err m

abbrev pub apply : Rule → Datum → ℤ → Kind → Result Datum Misfit
apply stays d n k = kept d k
apply (as_is s) d n k = at_kind k (number s n)
apply narrows d n k = at_kind k (narrowed n)
apply stamps d n k = stamp_at k (stamped d.kind n)
apply unread d n k = Err TextNotRead

abbrev pub converted_int : Datum → ℤ → Kind → Result Datum Misfit
converted_int d n k = apply (table k).of_int d n k

abbrev pub converted_long : Datum → ℤ → Kind → Result Datum Misfit
converted_long d n k = apply (table k).of_long d n k

-- text has no number
abbrev pub converted_string : Datum → Kind → Result Datum Misfit
converted_string d k = apply (table k).of_string d (pos 0) k

abbrev pub by_content : Content → Datum → Kind → Result Datum Misfit
by_content (number boolean n) d k = kept d k
by_content (number int n) d k = converted_int d n k
by_content (number long n) d k = converted_long d n k
by_content (number float n) d k = kept d k
by_content (number double n) d k = kept d k
by_content (bytes string b) d k = converted_string d k
by_content (bytes binary b) d k = kept d k
by_content above_max d k = kept d k
by_content below_min d k = kept d k

abbrev pub converted : Datum → Kind → Result Datum Misfit
converted d k = by_content d.content d k
