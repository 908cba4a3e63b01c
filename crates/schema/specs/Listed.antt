-- What the check knows while it goes through the fields.
use Rattle.std.specs.Prelude.{◌≡◌, ℕ, ◌<◌, true, List, length, slice_index}
use Rattle.values.specs.Contents.{inside}
use Rattle.schema.specs.declared.fields.Field.{Field}
use Rattle.schema.specs.Lines.{field_at}
use Rattle.schema.specs.Rules.{Parent, Shallow}

-- the rules that ask nothing of others' numbers and names
abbrev pub Formed : List Field → List ℕ → ℕ → Type 0
Formed fs t i = (i < 128) × Parent fs i × (inside (length t) (field_at fs i).name ≡ true) × Shallow fs i

-- a list begins with the numbers of the fields before one
abbrev pub ListedNumbers : List Field → ℕ → List ℕ → Type 0
ListedNumbers fs i numbers = (j : ℕ) → j < i → slice_index numbers j ≡ (field_at fs j).number

-- a list begins with the fields before one
abbrev pub Listed : ℕ → List ℕ → Type 0
Listed i fields = (j : ℕ) → j < i → slice_index fields j ≡ j
