-- What a bound column is, apart from where its places lie.
use Rattle.std.specs.Prelude.{ℕ, ◌+◌, Bool, List, take, drop, nat_le}
use Rattle.values.specs.declared.kinds.Kind.{Kind}
use Rattle.nodes.specs.declared.slots.Run.{Run}
use Rattle.nodes.specs.declared.term.Extent.{Extent}
use Rattle.columns.specs.declared.column.Column.{Column}

-- the cells of a run of a table: fewer than its count where it passes the table's end
abbrev pub cells_at : {X : Type 0} → List X → Run → List X
cells_at xs r = take r.count (drop r.start xs)

-- the run ends within a table of n cells
abbrev pub ends_within : ℕ → Run → Bool
ends_within n r = nat_le (r.start + r.count) n

-- a bound column lies within its tables if its places do
abbrev pub within : Extent → Column → Bool
within e c = ends_within e.places c.places

-- a field, the places that lead to it from the top, the kind that it is read under, and whether no row may leave it out
pub record Bound : Type 0 where
  pub field : ℕ
  pub kind : Kind
  pub places : List ℕ
  pub mandatory : Bool

-- of a column whose places lie in the table
abbrev pub bound_of : List ℕ → Column → Bound
bound_of table c = record { field = c.field; kind = c.kind; places = cells_at table c.places; mandatory = c.mandatory }
