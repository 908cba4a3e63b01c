-- What holds of lines and names in every table, and of every schema that keeps the rules.
use Rattle.std.specs.Prelude.{◌≡◌, ℕ, ◌<◌, ◌≤◌, true, List, [], ◌∷◌, ◌++◌, length, Ok}
use Rattle.schema.specs.declared.fields.Field.{Field}
use Rattle.schema.specs.Lines.{field_at, parent_of, above, line}
use Rattle.schema.specs.Names.{own_name, full_name, before}
use Rattle.schema.specs.Accessors.{Access, primitive, accessor_of}

-- two fields of one number are one field
abbrev pub UniqueNumbers : List Field → Type 0
UniqueNumbers fs = (i j : ℕ) → i < length fs → j < length fs → (field_at fs i).number ≡ (field_at fs j).number → i ≡ j

-- two fields of one full name are one field
abbrev pub UniqueNames : List Field → List ℕ → Type 0
UniqueNames fs t = (i j : ℕ) → i < length fs → j < length fs → full_name fs t i ≡ full_name fs t j → i ≡ j

-- each primitive field has an accessor of one to eight places
abbrev pub Reachable : List Field → Type 0
Reachable fs = (i : ℕ) → i < length fs → primitive (field_at fs i).shape ≡ true → (a : Access) × (accessor_of fs i ≡ Ok a) × (1 ≤ length a.places) × (length a.places ≤ 8)

-- the line to a field is the line to its parent, and then the field
abbrev pub DescentOfLines : List Field → Type 0
DescentOfLines fs = (i : ℕ) → line fs i ≡ above (parent_of fs i) (line fs) ++ (i ∷ [])

-- a full name is the parent's full name, a dot and the field's own name; at the top, its own name
abbrev pub DescentOfNames : List Field → List ℕ → Type 0
DescentOfNames fs t = (i : ℕ) → full_name fs t i ≡ before fs t (parent_of fs i) ++ own_name fs t i
