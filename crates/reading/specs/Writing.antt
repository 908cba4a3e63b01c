-- What a text writes: numbers, kinds.
use Rattle.std.specs.Prelude.{◌≡◌, ℕ, ◌^◌, ◌<◌, Bool, not, ◌&&◌, ◌||◌, ◌⊎◌, List, ◌++◌, length, ℤ, Some, None, codes, IsUtf8, decimal, Option, Result, FitsSigned, ◌==◌, nat_lt, slice_index}
use Rattle.std.specs.Int.{Width}
use Rattle.std.specs.Fmt.{signed_decimal}
use Rattle.std.specs.Result.{result_ok}
use Rattle.values.specs.declared.kinds.Kind.{Kind}
use Rattle.values.specs.declared.kinds.Kind.TheVariants as K

-- r is what the text writes, and none where it writes nothing
abbrev pub Reads : {X : Type 0} → (X → List ℕ → Type 0) → List ℕ → Option X → Type 0
Reads {X} Writes t None = (x : X) → Writes x t → ⊥
Reads Writes t (Some x) = Writes x t

-- a number of k bits in decimal digits, as it is printed: so with no sign and no leading zero
abbrev pub Natural : ℕ → ℕ → List ℕ → Type 0
Natural k n t = (n < 2 ^ k) × (t ≡ decimal n)

-- a signed number as it is printed: so a minus stands before a negative one, and there is no -0
abbrev pub Integer : Width → ℤ → List ℕ → Type 0
Integer w z t = FitsSigned w z × (t ≡ signed_decimal z)

-- neither a plus stands first, nor a zero before more, nor a minus before a zero
abbrev pub plain : List ℕ → Bool
plain t = nat_lt 0 (length t) && (not (slice_index t 0 == 43) && (length t == 1 || (not (slice_index t 0 == 48) && (not (slice_index t 0 == 45) || not (slice_index t 1 == 48)))))

-- o is what std's reader Takes from the bytes, and none where they are no text
abbrev pub Parsed : {X E : Type 0} → (List ℕ → Result X E → Type 0) → List ℕ → Option X → Type 0
Parsed {X} {E} Takes t o = ((IsUtf8 t → ⊥) × (o ≡ None)) ⊎ ((r : Result X E) × (Takes t r × (o ≡ result_ok r)))

abbrev pub kind_text : Kind → List ℕ
kind_text K.Boolean = codes "boolean"
kind_text K.Int = codes "int"
kind_text K.Date = codes "date"
kind_text K.Long = codes "long"
kind_text K.Time = codes "time"
kind_text K.Timestamp = codes "timestamp"
kind_text K.Timestamptz = codes "timestamptz"
kind_text K.TimestampNs = codes "timestamp_ns"
kind_text K.TimestamptzNs = codes "timestamptz_ns"
kind_text K.Float = codes "float"
kind_text K.Double = codes "double"
kind_text K.String = codes "string"
kind_text (K.Fixed n) = codes "fixed(" ++ (decimal n ++ codes ")")
kind_text K.Binary = codes "binary"

-- a fixed's length has 64 bits
abbrev pub Lasting : Kind → Type 0
Lasting K.Boolean = Unit {0}
Lasting K.Int = Unit {0}
Lasting K.Date = Unit {0}
Lasting K.Long = Unit {0}
Lasting K.Time = Unit {0}
Lasting K.Timestamp = Unit {0}
Lasting K.Timestamptz = Unit {0}
Lasting K.TimestampNs = Unit {0}
Lasting K.TimestamptzNs = Unit {0}
Lasting K.Float = Unit {0}
Lasting K.Double = Unit {0}
Lasting K.String = Unit {0}
Lasting (K.Fixed n) = n < 2 ^ 64
Lasting K.Binary = Unit {0}

abbrev pub KindWord : Kind → List ℕ → Type 0
KindWord k t = Lasting k × (t ≡ kind_text k)

-- the same of a fixed alone
abbrev pub FixedWord : Kind → List ℕ → Type 0
FixedWord k t = (n : ℕ) × ((k ≡ K.Fixed n) × KindWord (K.Fixed n) t)
