-- Names: a full name joins the names from the top by dots.
use Rattle.std.specs.Prelude.{ℕ, ◌+◌, cond, ◌&&◌, List, [], ◌∷◌, ◌++◌, map, Some, None, Option, nat_le}
use Rattle.values.specs.Contents.{bytes_at}
use Rattle.schema.specs.declared.fields.Field.{Field}
use Rattle.schema.specs.declared.names.Case.{Case}
use Rattle.schema.specs.declared.names.Case.TheVariants.{Sensitive, Insensitive}
use Rattle.schema.specs.declared.names.Tail.{Tail}
use Rattle.schema.specs.Lines.{field_at, line}

-- each after a dot, which is the byte 46
abbrev pub after_dots : List (List ℕ) → List ℕ
after_dots [] = []
after_dots (n ∷ ns) = 46 ∷ (n ++ after_dots ns)

abbrev pub dotted : List (List ℕ) → List ℕ
dotted [] = []
dotted (n ∷ ns) = n ++ after_dots ns

abbrev pub own_name : List Field → List ℕ → ℕ → List ℕ
own_name fs t i = bytes_at t (field_at fs i).name

abbrev pub full_name : List Field → List ℕ → ℕ → List ℕ
full_name fs t i = dotted (map (own_name fs t) (line fs i))

-- A (65) to Z (90) are lowered, and nothing else
abbrev pub lowered : ℕ → ℕ
lowered b = cond (nat_le 65 b && nat_le b 90) (b + 32) b

-- a byte as it is compared
abbrev pub letter : Case → ℕ → ℕ
letter Sensitive b = b
letter Insensitive b = lowered b

abbrev pub spelled : Case → List ℕ → List ℕ
spelled Sensitive n = n
spelled Insensitive n = map lowered n

-- what stands before a field's own name: its parent's full name and a dot
abbrev pub before : List Field → List ℕ → Option ℕ → List ℕ
before fs t None = []
before fs t (Some p) = full_name fs t p ++ (46 ∷ [])

-- a name of which the end has been read
abbrev pub rest : Tail → List ℕ
rest tail = before tail.schema.fields.now tail.schema.text.now tail.above ++ tail.left.now
