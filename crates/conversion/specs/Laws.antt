-- What conversion promises of every value and every column.
use Rattle.std.specs.Prelude.{◌≡◌, true, ◌⊎◌, ℤ, pos, negsuc, ◌+ℤ◌, ◌*ℤ◌, ◌≤ℤ◌, ◌<ℤ◌, Ok}
use Rattle.values.specs.declared.kinds.Kind.{Kind}
use Rattle.values.specs.declared.kinds.Kind.TheVariants as K
use Rattle.values.specs.Contents.{long, int, Content, number, above_max, below_min, Datum}
use Rattle.values.specs.Kept.{well_kept_datum}
use Rattle.conversion.specs.Table.{converted}

abbrev pub datum : Kind → Content → Datum
datum k c = record { kind = k; content = c }

abbrev pub Extreme : Content → Type 0
Extreme c = (c ≡ above_max) ⊎ (c ≡ below_min)

-- q is the greatest whole number of thousands that is not above n
pub record Floored (n q : ℤ) : Type 0 where
  pub not_above : (q *ℤ pos 1000) ≤ℤ n
  pub greatest : n <ℤ ((q +ℤ pos 1) *ℤ pos 1000)

-- n as a signed number of 32 bits, or the extreme on its side
pub record Narrowed (n : ℤ) (c : Content) : Type 0 where
  pub inside : negsuc 2147483647 ≤ℤ n → n ≤ℤ pos 2147483647 → c ≡ number int n
  pub beyond : pos 2147483647 <ℤ n → c ≡ above_max
  pub before : n <ℤ negsuc 2147483647 → c ≡ below_min

abbrev pub CountsNanos : Kind → Type 0
CountsNanos k = (k ≡ K.TimestampNs) ⊎ (k ≡ K.TimestamptzNs)

abbrev pub CountsMicros : Kind → Type 0
CountsMicros k = (k ≡ K.Timestamp) ⊎ (k ≡ K.Timestamptz)

pub record Conversion : Type 0 where
  -- what comes out has the column's kind
  pub has_the_columns_kind : (d m : Datum) (k : Kind) → converted d k ≡ Ok m → m.kind ≡ k
  -- kept as its kind says, a value comes out kept as the column's kind says, or as an extreme
  pub stays_well_kept : (d m : Datum) (k : Kind) → well_kept_datum d ≡ true → converted d k ≡ Ok m → (well_kept_datum m ≡ true) ⊎ Extreme m.content
  -- to its own kind every value that is kept as its kind says goes unchanged
  pub own_kind : (d : Datum) → well_kept_datum d ≡ true → converted d d.kind ≡ Ok d
  -- a long goes to an int exactly where it is one
  pub narrows : (k : Kind) (n : ℤ) → (c : Content) × (converted (datum k (number long n)) K.Int ≡ Ok (datum K.Int c)) × Narrowed n c
  -- nanoseconds go to the microsecond that they lie in
  pub rounds_down : (from to : Kind) (n : ℤ) → CountsNanos from → CountsMicros to → (q : ℤ) × (converted (datum from (number long n)) to ≡ Ok (datum to (number long q))) × Floored n q
