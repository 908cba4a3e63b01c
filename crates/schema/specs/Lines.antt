-- Where a field stands: its parent, the line from the top down to it, and its place among the fields of its parent.
use Rattle.std.specs.Prelude.{ℕ, zero, suc, ◌+◌, Bool, true, false, cond, List, [], ◌∷◌, ◌++◌, Some, None, Option, ◌==◌, nat_lt, slice_index_or}
use Rattle.schema.specs.declared.fields.Field.{Field}
use Rattle.schema.specs.declared.fields.Shape.TheVariants.{ListOrMap}

-- what stands past the table's end
abbrev pub nowhere : Field
nowhere = record { number = 0; name = record { start = 0; len = 0 }; required = false; parent = None; shape = ListOrMap }

abbrev pub field_at : List Field → ℕ → Field
field_at fs i = slice_index_or fs i nowhere

-- a number that is below another
abbrev pub below : ℕ → Option ℕ → Option ℕ
below i None = None
below i (Some p) = cond (nat_lt p i) (Some p) None

-- a field's parent; one that is not an earlier field breaks a rule, and counts as none
abbrev pub parent_of : List Field → ℕ → Option ℕ
parent_of fs i = below i (field_at fs i).parent

abbrev pub above : {X : Type 0} → Option ℕ → (ℕ → List X) → List X
above None f = []
above (Some p) f = f p

-- the fields from the top down to a field, within so many steps
abbrev pub line_within : ℕ → List Field → ℕ → List ℕ
line_within zero fs i = []
line_within (suc n) fs i = above (parent_of fs i) (line_within n fs) ++ (i ∷ [])

-- each parent is earlier, so that there are no more steps than fields up to this one
abbrev pub line : List Field → ℕ → List ℕ
line fs i = line_within (suc i) fs i

abbrev pub same_parent : Option ℕ → Option ℕ → Bool
same_parent None None = true
same_parent None (Some q) = false
same_parent (Some p) None = false
same_parent (Some p) (Some q) = p == q

-- how many numbers below n pass
abbrev pub tally : (ℕ → Bool) → ℕ → ℕ
tally p zero = 0
tally p (suc n) = tally p n + cond (p n) 1 0

-- how many earlier fields have the same parent
abbrev pub place : List Field → ℕ → ℕ
place fs i = tally (λ j. same_parent (parent_of fs j) (parent_of fs i)) i
