-- The rules of a schema, each of a field and those before it.
use Rattle.std.specs.Prelude.{◌≡◌, ℕ, ◌<◌, ◌≤◌, true, List, length, Some, ◌≢◌}
use Rattle.values.specs.Contents.{inside}
use Rattle.schema.specs.declared.fields.Field.{Field}
use Rattle.schema.specs.declared.fields.Shape.TheVariants.{Struct}
use Rattle.schema.specs.Lines.{field_at, line}
use Rattle.schema.specs.Names.{full_name}
use Rattle.schema.specs.Accessors.{primitive}

-- the parent is an earlier struct
abbrev pub Parent : List Field → ℕ → Type 0
Parent fs i = (p : ℕ) → (field_at fs i).parent ≡ Some p → (p < i) × ((field_at fs p).shape ≡ Struct)

-- a primitive field is at most eight places deep
abbrev pub Shallow : List Field → ℕ → Type 0
Shallow fs i = primitive (field_at fs i).shape ≡ true → length (line fs i) ≤ 8

-- no earlier field has the number
abbrev pub NewNumber : List Field → ℕ → Type 0
NewNumber fs i = (j : ℕ) → j < i → (field_at fs j).number ≢ (field_at fs i).number

-- no earlier field has the full name
abbrev pub NewName : List Field → List ℕ → ℕ → Type 0
NewName fs t i = (j : ℕ) → j < i → full_name fs t j ≢ full_name fs t i

-- every rule holds of a field
pub record Keeps (fs : List Field) (t : List ℕ) (i : ℕ) : Type 0 where
  -- a schema has at most 128 fields
  pub few : i < 128
  pub parent : Parent fs i
  -- the name lies inside the text
  pub name : inside (length t) (field_at fs i).name ≡ true
  pub depth : Shallow fs i
  pub number : NewNumber fs i
  pub full : NewName fs t i

abbrev pub Sound : List Field → List ℕ → Type 0
Sound fs t = (i : ℕ) → i < length fs → Keeps fs t i

-- the first field that breaks a rule
abbrev pub FirstFault : List Field → List ℕ → ℕ → Type 0
FirstFault fs t i = (i < length fs) × (Keeps fs t i → ⊥) × ((j : ℕ) → j < i → Keeps fs t j)
