-- The answer of a row of cells.
use Rattle.std.specs.Prelude.{ℕ, ◌+◌, cond, ◌&&◌, List, [], ◌∷◌, length, take, Some, None, Ok, Err, Option, Result, nat_le, nat_lt, slice_index_or}
use Rattle.values.specs.declared.kinds.Kind.{Kind}
use Rattle.values.specs.declared.literals.Literal.{Literal}
use Rattle.values.specs.declared.refusals.Reason.{Reason}
use Rattle.values.specs.declared.refusals.Reason.TheVariants as R
use Rattle.values.specs.Contents.{content_of, text_inside}
use Rattle.rows.specs.declared.cells.Cell.{Cell}
use Rattle.rows.specs.declared.cells.Cell.TheVariants as C
use Rattle.rows.specs.Reached.{is_extreme}

-- a row is the first 1,024 cells of its table
abbrev pub row_cells : List Cell → List Cell
row_cells cells = take 1024 cells

-- a cell with a place still to follow: only a group is entered
abbrev pub entered : Cell → (ℕ → ℕ → Result Cell Reason) → Result Cell Reason
entered C.Null into = Err R.NoGroup
entered (C.Value v) into = Err R.NoGroup
entered (C.Group start count) into = into start count
entered C.ListOrMap into = Err R.NoGroup

-- the cell that the places lead to from a cell, whose group must not begin before `after`
abbrev pub followed : List Cell → Cell → ℕ → List ℕ → Result Cell Reason
followed cells x after [] = Ok x
followed cells x after (p ∷ ps) =
    entered x
    (λ start count.
    cond (nat_le after start && nat_le (start + count) (length cells))
    (cond (nat_lt p count) (followed cells (slice_index_or cells (start + p) C.Null) (start + p + 1) ps) (Err R.PlacePastGroup))
    (Err R.OutsideRow))

-- the answer at the cell that the places lead to
abbrev pub read : List ℕ → Kind → Cell → Result (Option Literal) Reason
read t k C.Null = Ok None
read t k (C.Value v) = cond (is_extreme (content_of t v)) (Err R.NoValue) (cond (text_inside (length t) v) (Ok (Some (record { kind = k; value = v }))) (Err R.OutsideRow))
read t k (C.Group start count) = Err R.NoValue
read t k C.ListOrMap = Err R.NoValue

abbrev pub read_if : List ℕ → Kind → Result Cell Reason → Result (Option Literal) Reason
read_if t k (Ok x) = read t k x
read_if t k (Err e) = Err e

-- the places are followed from the row itself, the group of its top cells
abbrev pub looked_up : List Cell → ℕ → List ℕ → List ℕ → Kind → Result (Option Literal) Reason
looked_up cells top t places k = read_if t k (followed (row_cells cells) (C.Group 0 top) 0 places)
