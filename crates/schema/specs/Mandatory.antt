-- Which fields a row may not leave out.
use Rattle.std.specs.Prelude.{ℕ, Bool, List}
use Rattle.schema.specs.declared.fields.Field.{Field}
use Rattle.schema.specs.Lines.{field_at}

-- the field itself is required
abbrev pub mandatory : List Field → ℕ → Bool
mandatory fs i = (field_at fs i).required
