-- The kinds, and what stores them.
use Rattle.std.specs.Prelude.{ℕ, Bool, ◌&&◌, ◌==◌}
use Rattle.values.specs.declared.kinds.Kind.{Kind}
use Rattle.values.specs.declared.kinds.Kind.TheVariants as K
use Rattle.values.specs.declared.kinds.Storage.{Storage}
use Rattle.values.specs.declared.kinds.Storage.TheVariants as S

abbrev pub storage_of : Kind → Storage
storage_of K.Boolean = S.Boolean
storage_of K.Int = S.Int
storage_of K.Date = S.Int
storage_of K.Long = S.Long
storage_of K.Time = S.Long
storage_of K.Timestamp = S.Long
storage_of K.Timestamptz = S.Long
storage_of K.TimestampNs = S.Long
storage_of K.TimestamptzNs = S.Long
storage_of K.Float = S.Float
storage_of K.Double = S.Double
storage_of K.String = S.String
storage_of (K.Fixed n) = S.Binary
storage_of K.Binary = S.Binary

-- a kind's place in the list of kinds, where every fixed has one place
abbrev pub place_of : Kind → ℕ
place_of K.Boolean = 0
place_of K.Int = 1
place_of K.Date = 2
place_of K.Long = 3
place_of K.Time = 4
place_of K.Timestamp = 5
place_of K.Timestamptz = 6
place_of K.TimestampNs = 7
place_of K.TimestamptzNs = 8
place_of K.Float = 9
place_of K.Double = 10
place_of K.String = 11
place_of (K.Fixed n) = 12
place_of K.Binary = 13

-- a fixed's length
abbrev pub length_of : Kind → ℕ
length_of K.Boolean = 0
length_of K.Int = 0
length_of K.Date = 0
length_of K.Long = 0
length_of K.Time = 0
length_of K.Timestamp = 0
length_of K.Timestamptz = 0
length_of K.TimestampNs = 0
length_of K.TimestamptzNs = 0
length_of K.Float = 0
length_of K.Double = 0
length_of K.String = 0
length_of (K.Fixed n) = n
length_of K.Binary = 0

-- one kind and one fixed length
abbrev pub same_kind : Kind → Kind → Bool
same_kind a b = place_of a == place_of b && length_of a == length_of b

-- one kind, fixed lengths aside
abbrev pub same_family : Kind → Kind → Bool
same_family a b = place_of a == place_of b
