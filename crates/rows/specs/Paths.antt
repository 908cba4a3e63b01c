-- Where the places lead in a row of cells, and when each answer comes.
use Rattle.std.specs.Prelude.{◌≡◌, ℕ, ◌+◌, ◌<◌, ◌≤◌, true, false, ◌⊎◌, ◌↔◌, List, [], ◌∷◌, ◌++◌, length, Some, None, Ok, Err, Option, Result, ◌≢◌, slice_index_or}
use Rattle.values.specs.declared.kinds.Kind.{Kind}
use Rattle.values.specs.declared.literals.Literal.{Literal}
use Rattle.values.specs.declared.literals.Value.{Value}
use Rattle.values.specs.declared.refusals.Reason.{Reason}
use Rattle.values.specs.declared.refusals.Reason.TheVariants as R
use Rattle.values.specs.Contents.{content_of, text_inside}
use Rattle.rows.specs.declared.cells.Cell.{Cell}
use Rattle.rows.specs.declared.cells.Cell.TheVariants as C
use Rattle.rows.specs.Reached.{is_extreme}

-- a cell, and the number of the first cell after it
pub record Spot : Type 0 where
  pub cell : Cell
  pub after : ℕ

abbrev pub spot_of : List Cell → ℕ → Spot
spot_of cells n = record { cell = slice_index_or cells n C.Null; after = n + 1 }

-- the row itself is the group of its top cells, and stands before the first cell
abbrev pub row_spot : ℕ → Spot
row_spot top = record { cell = C.Group 0 top; after = 0 }

-- a group that begins after its cell and ends within the cells
pub record Sound (cells : List Cell) (at : Spot) (start count : ℕ) : Type 0 where
  pub held : at.cell ≡ C.Group start count
  pub begins : at.after ≤ start
  pub ends : start + count ≤ length cells

-- the places lead from one spot to another, each place counted in a sound group
pub data Leads (cells : List Cell) : Spot → List ℕ → Spot → Type 0 where
  here : (a : Spot) → Leads cells a [] a
  through : (a b : Spot) (start count p : ℕ) (ps : List ℕ) → Sound cells a start count → p < count → Leads cells (spot_of cells (start + p)) ps b → Leads cells a (p ∷ ps) b

-- the places, all of them, lead to a cell that is x
pub record Ends (cells : List Cell) (from : Spot) (places : List ℕ) (x : Cell) : Type 0 where
  pub after : ℕ
  pub led : Leads cells from places (record { cell = x; after = after })

-- the places lead to the spot with p the next of them
pub record Meets (cells : List Cell) (from : Spot) (places : List ℕ) (at : Spot) (p : ℕ) : Type 0 where
  pub before : List ℕ
  pub later : List ℕ
  pub split : places ≡ before ++ (p ∷ later)
  pub led : Leads cells from before at

-- a place past the end of a sound group
pub record PastGroup (cells : List Cell) (from : Spot) (places : List ℕ) : Type 0 where
  pub at : Spot
  pub place : ℕ
  pub start : ℕ
  pub count : ℕ
  pub met : Meets cells from places at place
  pub sound : Sound cells at start count
  pub past : count ≤ place

-- a place left at a cell that is no group
pub record Groupless (cells : List Cell) (from : Spot) (places : List ℕ) : Type 0 where
  pub at : Spot
  pub place : ℕ
  pub met : Meets cells from places at place
  pub no_group : (start count : ℕ) → at.cell ≢ C.Group start count

-- a place left at a group that is not sound
pub record Unsound (cells : List Cell) (from : Spot) (places : List ℕ) : Type 0 where
  pub at : Spot
  pub place : ℕ
  pub start : ℕ
  pub count : ℕ
  pub met : Meets cells from places at place
  pub held : at.cell ≡ C.Group start count
  pub unsound : Sound cells at start count → ⊥

-- a group, a list or map, or an extreme
abbrev pub Valueless : List ℕ → Cell → Type 0
Valueless t C.Null = ⊥
Valueless t (C.Value v) = is_extreme (content_of t v) ≡ true
Valueless t (C.Group start count) = Unit {0}
Valueless t C.ListOrMap = Unit {0}

-- each answer comes exactly if the places lead so
pub record Caused (cells : List Cell) (row : Spot) (t places : List ℕ) (k : Kind) (r : Result (Option Literal) Reason) : Type 0 where
  -- absent: they lead to a null
  pub absent : (r ≡ Ok None) ↔ Ends cells row places C.Null
  -- a literal: it has the kind, and they lead to its value, which is no extreme and has its text inside the row's
  pub found : (l : Literal) → (r ≡ Ok (Some l)) ↔ ((l.kind ≡ k) × Ends cells row places (C.Value l.value) × (is_extreme (content_of t l.value) ≡ false) × (text_inside (length t) l.value ≡ true))
  -- they lead to a sound group, and the next place is past its end
  pub past_group : (r ≡ Err R.PlacePastGroup) ↔ PastGroup cells row places
  -- they lead to a cell that is no group, and a place is left
  pub no_group : (r ≡ Err R.NoGroup) ↔ Groupless cells row places
  -- they lead to a group, a list or map, or an extreme, and no place is left
  pub no_value : (r ≡ Err R.NoValue) ↔ ((x : Cell) × Ends cells row places x × Valueless t x)
  -- they lead to a group that is not sound, and a place is left, or to a value with its text not inside the row's
  pub outside : (r ≡ Err R.OutsideRow) ↔ (Unsound cells row places ⊎ ((v : Value) × Ends cells row places (C.Value v) × (text_inside (length t) v ≡ false)))
  -- there is no other refusal
  pub no_other : (e : Reason) → r ≡ Err e → (e ≡ R.PlacePastGroup) ⊎ ((e ≡ R.NoGroup) ⊎ ((e ≡ R.NoValue) ⊎ (e ≡ R.OutsideRow)))
