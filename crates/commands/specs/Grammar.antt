-- Which word of a line that is no command is at fault, and which line is passed over.
use Rattle.std.specs.Prelude.{◌≡◌, ℕ, Bool, true, false, cond, ◌⊎◌, List, [], ◌∷◌, length, drop, Some, None, Ok, Err, codes, MatchBool, Option, Result, ◌==◌, ◌≢◌, slice_index}
use Rattle.std.specs.Str.{bytes_eq}
use Rattle.values.specs.declared.kinds.Kind.{Kind}
use Rattle.values.specs.Contents.{Datum}
use Rattle.nodes.specs.declared.operators.PredicateOperator.{PredicateOperator}
use Rattle.reading.specs.Words.{Word, left_open, words}
use Rattle.reading.specs.Writing.{Natural, KindWord}
use Rattle.reading.specs.Literals.{Quoted, LiteralWord}
use Rattle.commands.specs.declared.command.Command.{Command}
use Rattle.commands.specs.declared.command.Column.{Column}
use Rattle.commands.specs.declared.command.Presence.{Presence}
use Rattle.commands.specs.declared.command.Malformed.{Malformed}
use Rattle.commands.specs.declared.command.Fault.{Fault}
use Rattle.commands.specs.declared.command.Fault.TheVariants as F
use Rattle.commands.specs.Spelling.{presence_text, operator_text, ColumnWord, spelling, Spelt}

-- what a command wants in a place: a word of its own, or an argument of a sort
pub data Part : Type 0 where
  the : List ℕ → Part
  a_literal : Part
  a_kind : Part
  a_number : ℕ → Part
  a_name : Part
  a_column : Part
  a_presence : Part
  an_operator : Part

-- the bytes are not what is wanted
abbrev pub Misses : Part → List ℕ → Type 0
Misses (the w) t = t ≡ w → ⊥
Misses a_literal t = (d : Datum) → LiteralWord d t → ⊥
Misses a_kind t = (k : Kind) → KindWord k t → ⊥
Misses (a_number bits) t = (n : ℕ) → Natural bits n t → ⊥
Misses a_name t = (b : List ℕ) → Quoted b t → ⊥
Misses a_column t = (c : Column) → ColumnWord c t → ⊥
Misses a_presence t = (p : Presence) → t ≢ presence_text p
Misses an_operator t = (op : PredicateOperator) → t ≢ operator_text op

abbrev pub fault_of : Part → Fault
fault_of (the w) = F.OtherWord
fault_of a_literal = F.NotALiteral
fault_of a_kind = F.NotAKind
fault_of (a_number bits) = F.NotANumber
fault_of a_name = F.NotAName
fault_of a_column = F.NotAColumn
fault_of a_presence = F.NotAPresence
fault_of an_operator = F.NotAnOperator

-- behind `field` and its four words: nothing, or the parent
abbrev pub parent_parts : List Word → List Part
parent_parts [] = []
parent_parts (w ∷ ws) = the (codes "in") ∷ a_number 64 ∷ []

-- behind `cell`: by the next word
abbrev pub cell_parts : List Word → List Part
cell_parts [] = a_literal ∷ []
cell_parts (w ∷ ws) =
    cond (bytes_eq w.text (codes "null")) (the (codes "null") ∷ [])
    (cond (bytes_eq w.text (codes "group")) (the (codes "group") ∷ a_number 64 ∷ a_number 64 ∷ [])
    (cond (bytes_eq w.text (codes "list")) (the (codes "list") ∷ [])
    (a_literal ∷ [])))

-- behind `lay`, its column and its operator: literals, as many as there are
abbrev pub literal_parts : List Word → List Part
literal_parts [] = []
literal_parts (w ∷ ws) = a_literal ∷ literal_parts ws

-- these parts behind that word
abbrev pub behind : List ℕ → List ℕ → List Part → Option (List Part) → Option (List Part)
behind t w parts others = cond (bytes_eq t w) (Some parts) others

-- what a command wants behind its first word, of which t are the bytes and ws the words that follow
abbrev pub wanted : List ℕ → List Word → Option (List Part)
wanted t ws =
    behind t (codes "equal") (a_literal ∷ a_literal ∷ [])
    (behind t (codes "compare") (a_literal ∷ a_literal ∷ [])
    (behind t (codes "convert") (a_literal ∷ the (codes "to") ∷ a_kind ∷ [])
    (behind t (codes "field") (a_number 32 ∷ a_name ∷ a_column ∷ a_presence ∷ parent_parts (drop 4 ws))
    (behind t (codes "schema") []
    (behind t (codes "find") (a_name ∷ [])
    (behind t (codes "find-any-case") (a_name ∷ [])
    (behind t (codes "row") (a_number 64 ∷ [])
    (behind t (codes "cell") (cell_parts ws)
    (behind t (codes "get") (a_name ∷ [])
    (behind t (codes "always-true") []
    (behind t (codes "always-false") []
    (behind t (codes "lay") (a_name ∷ an_operator ∷ literal_parts (drop 2 ws))
    (behind t (codes "and") (a_number 16 ∷ a_number 16 ∷ [])
    (behind t (codes "or") (a_number 16 ∷ a_number 16 ∷ [])
    (behind t (codes "not") (a_number 16 ∷ [])
    (behind t (codes "negate") (a_number 16 ∷ [])
    (behind t (codes "rewrite") (a_number 16 ∷ [])
    (behind t (codes "show") (a_number 16 ∷ [])
    (behind t (codes "book") []
    None)))))))))))))))))))

-- that fault at that word
abbrev pub at_word : Fault → Word → Malformed
at_word f w = record { what = f; at = w.place }

abbrev pub open_quote : Word → Bool
open_quote w = left_open false w.text

-- m is the first fault of the words ws, of which the parts are wanted; a word is missing at the line's end e
abbrev pub Faulty : ℕ → List Part → List Word → Malformed → Type 0
Faulty e [] [] m = ⊥
Faulty e [] (w ∷ ws) m = m ≡ at_word (cond (open_quote w) F.OpenQuote F.ExtraWord) w
Faulty e (p ∷ ps) [] m = m ≡ record { what = F.MissingWord; at = e }
Faulty e (p ∷ ps) (w ∷ ws) m =
    MatchBool (open_quote w) (m ≡ at_word F.OpenQuote w) ((Misses p w.text × (m ≡ at_word (fault_of p) w)) ⊎ ((Misses p w.text → ⊥) × Faulty e ps ws m))

-- the same of the words behind w, of which some parts are wanted if w is a command's first
abbrev pub FaultyBehind : ℕ → Word → List Word → Option (List Part) → Malformed → Type 0
FaultyBehind e w ws None m = m ≡ at_word F.UnknownCommand w
FaultyBehind e w ws (Some ps) m = Faulty e ps ws m

-- and of a whole line
abbrev pub FaultyLine : ℕ → List Word → Malformed → Type 0
FaultyLine e [] m = ⊥
FaultyLine e (w ∷ ws) m = MatchBool (open_quote w) (m ≡ at_word F.OpenQuote w) (FaultyBehind e w ws (wanted w.text ws) m)

-- a line without a word, or whose first word begins with '#'
abbrev pub passed_over : List Word → Bool
passed_over [] = true
passed_over (w ∷ ws) = slice_index w.text 0 == 35

-- what a line is read as
abbrev pub Read : List ℕ → Result (Option Command) Malformed → Type 0
Read line (Ok None) = passed_over (words line) ≡ true
Read line (Ok (Some c)) = (passed_over (words line) ≡ false) × Spelt line (spelling line c) (words line)
Read line (Err m) = (passed_over (words line) ≡ false) × FaultyLine (length line) (words line) m

-- no command is refused
abbrev pub SpellsNone : List ℕ → Result (Option Command) Malformed → Type 0
SpellsNone line (Ok o) = Unit {0}
SpellsNone line (Err m) = (c : Command) → Spelt line (spelling line c) (words line) → ⊥
