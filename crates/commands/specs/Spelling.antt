-- How each command is written, word by word.
use Rattle.std.specs.Prelude.{◌≡◌, ℕ, true, false, cond, List, [], ◌∷◌, length, Some, None, codes, Option}
use Rattle.values.specs.declared.kinds.Kind.{Kind}
use Rattle.values.specs.declared.literals.Span.{Span}
use Rattle.values.specs.declared.literals.Literal.{Literal}
use Rattle.values.specs.Contents.{bytes_at, inside, text_inside, Datum, datum_of}
use Rattle.nodes.specs.declared.operators.PredicateOperator.{PredicateOperator}
use Rattle.nodes.specs.declared.operators.PredicateOperator.TheVariants as O
use Rattle.reading.specs.Words.{Word, left_open, words_from}
use Rattle.reading.specs.Writing.{Natural, KindWord}
use Rattle.reading.specs.Literals.{Quoted, LiteralWord}
use Rattle.commands.specs.declared.command.Command.{Command}
use Rattle.commands.specs.declared.command.Command.TheVariants as C
use Rattle.commands.specs.declared.command.Column.{Column}
use Rattle.commands.specs.declared.command.Column.TheVariants as T
use Rattle.commands.specs.declared.command.Presence.{Presence}
use Rattle.commands.specs.declared.command.Presence.TheVariants as P
use Rattle.commands.specs.declared.command.CellWord.{CellWord}
use Rattle.commands.specs.declared.command.CellWord.TheVariants as W

-- what one word of a command stands for: itself, or an argument
pub data Item : Type 0 where
  word : List ℕ → Item
  literal : Literal → Item
  kind : Kind → Item
  -- a number of so many bits
  number : ℕ → ℕ → Item
  name : Span → Item
  column : Column → Item
  -- some literal, by its bytes
  some_literal : List ℕ → Item

abbrev pub presence_text : Presence → List ℕ
presence_text P.Required = codes "required"
presence_text P.Optional = codes "optional"

abbrev pub parent_items : Option ℕ → List Item
parent_items None = []
parent_items (Some place) = word (codes "in") ∷ number 64 place ∷ []

abbrev pub cell_items : CellWord → List Item
cell_items W.Null = word (codes "null") ∷ []
cell_items (W.Value l) = literal l ∷ []
cell_items (W.Group start count) = word (codes "group") ∷ number 64 start ∷ number 64 count ∷ []
cell_items W.List = word (codes "list") ∷ []

abbrev pub operator_text : PredicateOperator → List ℕ
operator_text O.IsNull = codes "is-null"
operator_text O.NotNull = codes "not-null"
operator_text O.IsNan = codes "is-nan"
operator_text O.NotNan = codes "not-nan"
operator_text O.LessThan = codes "<"
operator_text O.LessThanOrEq = codes "<="
operator_text O.GreaterThan = codes ">"
operator_text O.GreaterThanOrEq = codes ">="
operator_text O.Eq = codes "="
operator_text O.NotEq = codes "!="
operator_text O.StartsWith = codes "starts-with"
operator_text O.NotStartsWith = codes "not-starts-with"
operator_text O.In = codes "in"
operator_text O.NotIn = codes "not-in"

abbrev pub OperatorWord : PredicateOperator → List ℕ → Type 0
OperatorWord op t = t ≡ operator_text op

-- each of the words is a literal
abbrev pub literal_items : List Word → List Item
literal_items [] = []
literal_items (w ∷ ws) = some_literal w.text ∷ literal_items ws

-- in a line, where a condition's literals are the words from a place on
abbrev pub spelling : List ℕ → Command → List Item
spelling line (C.Equal a b) = word (codes "equal") ∷ literal a ∷ literal b ∷ []
spelling line (C.Compare a b) = word (codes "compare") ∷ literal a ∷ literal b ∷ []
spelling line (C.Convert a k) = word (codes "convert") ∷ literal a ∷ word (codes "to") ∷ kind k ∷ []
spelling line (C.Field n s c p parent) = word (codes "field") ∷ number 32 n ∷ name s ∷ column c ∷ word (presence_text p) ∷ parent_items parent
spelling line C.Schema = word (codes "schema") ∷ []
spelling line (C.Find s any) = word (cond any (codes "find-any-case") (codes "find")) ∷ name s ∷ []
spelling line (C.Row top) = word (codes "row") ∷ number 64 top ∷ []
spelling line (C.Cell w) = word (codes "cell") ∷ cell_items w
spelling line (C.Get s) = word (codes "get") ∷ name s ∷ []
spelling line (C.Constant value) = word (cond value (codes "always-true") (codes "always-false")) ∷ []
spelling line (C.Lay s op literals) = word (codes "lay") ∷ name s ∷ word (operator_text op) ∷ literal_items (words_from line literals)
spelling line (C.And a b) = word (codes "and") ∷ number 16 a ∷ number 16 b ∷ []
spelling line (C.Or a b) = word (codes "or") ∷ number 16 a ∷ number 16 b ∷ []
spelling line (C.Not a) = word (codes "not") ∷ number 16 a ∷ []
spelling line (C.Negate a) = word (codes "negate") ∷ number 16 a ∷ []
spelling line (C.Rewrite a) = word (codes "rewrite") ∷ number 16 a ∷ []
spelling line (C.Show a) = word (codes "show") ∷ number 16 a ∷ []
spelling line C.Book = word (codes "book") ∷ []

-- a column's word: a kind, `struct` or `list`
abbrev pub ColumnWord : Column → List ℕ → Type 0
ColumnWord (T.Primitive k) t = KindWord k t
ColumnWord T.Struct t = t ≡ codes "struct"
ColumnWord T.List t = t ≡ codes "list"

-- the bytes of a word say the item, by its content; what lies in the line lies inside it
abbrev pub Says : List ℕ → Item → List ℕ → Type 0
Says line (word w) t = t ≡ w
Says line (literal l) t = LiteralWord (datum_of line l) t × (text_inside (length line) l.value ≡ true)
Says line (kind k) t = KindWord k t
Says line (number bits n) t = Natural bits n t
Says line (name s) t = Quoted (bytes_at line s) t × (inside (length line) s ≡ true)
Says line (column c) t = ColumnWord c t
Says line (some_literal b) t = (t ≡ b) × ((d : Datum) × LiteralWord d t)

-- as many words as items, each without an open quote, and each says its item
abbrev pub Spelt : List ℕ → List Item → List Word → Type 0
Spelt line [] [] = Unit {0}
Spelt line [] (w ∷ ws) = ⊥
Spelt line (i ∷ is) [] = ⊥
Spelt line (i ∷ is) (w ∷ ws) = (left_open false w.text ≡ false) × (Says line i w.text × Spelt line is ws)
