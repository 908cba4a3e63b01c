-- Equal literals: kind, storage and content agree.
use Rattle.std.specs.Prelude.{ℕ, Bool, List}
use Rattle.values.specs.declared.literals.Literal.{Literal}
use Rattle.values.specs.Contents.{datum_of}
use Rattle.comparison.specs.Equality.{same_datum}

-- literals of one text
abbrev pub same_literal : List ℕ → Literal → Literal → Bool
same_literal text a b = same_datum (datum_of text a) (datum_of text b)
