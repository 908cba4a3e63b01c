-- What is refused is no command.
use Rattle.std.proofs.Common.{◌≡◌, ℕ, Bool, true, false, ◌||◌, eqb, List, [], ◌∷◌, ◌++◌, drop, length, Some, None, Ok, Err, codes, Option, Result, sym, refl, ap, ◌∙◌, subst, inl, inr}
use Rattle.std.specs.Str.{bytes_eq}
use Rattle.std.proofs.lemmas.Slice.Eq.{bytes_eq-Decides}
use Rattle.std.proofs.lemmas.Bool.{cases_Bool, false≢true, or_right}
use Rattle.std.proofs.lemmas.Bool.Decides.{when_false}
use Rattle.values.specs.declared.kinds.Kind.{Kind}
use Rattle.values.specs.declared.literals.Span.{Span}
use Rattle.values.specs.declared.literals.Literal.{Literal}
use Rattle.values.specs.Contents.{bytes_at, datum_of}
use Rattle.nodes.specs.declared.operators.PredicateOperator.{PredicateOperator}
use Rattle.reading.specs.Words.{Word, words, words_from}
use Rattle.commands.specs.declared.command.Command.{Command}
use Rattle.commands.specs.declared.command.Command.TheVariants as C
use Rattle.commands.specs.declared.command.Column.{Column}
use Rattle.commands.specs.declared.command.Presence.{Presence}
use Rattle.commands.specs.declared.command.CellWord.{CellWord}
use Rattle.commands.specs.declared.command.CellWord.TheVariants as W
use Rattle.commands.specs.declared.command.Malformed.{Malformed}
use Rattle.commands.specs.declared.command.Fault.TheVariants as F
use Rattle.commands.specs.Spelling.{Item, word, literal, kind, number, name, column, presence_text, parent_items, cell_items, operator_text, some_literal, literal_items, spelling, Says, Spelt}
use Rattle.commands.specs.Grammar.{Part, the, a_literal, a_kind, a_number, a_name, a_column, a_presence, an_operator, Misses, parent_parts, cell_parts, literal_parts, wanted, Faulty, FaultyBehind, FaultyLine, at_word, Read, SpellsNone}

-- an item of the sort that the part wants
Sort : Part → Item → Type 0
Sort p i = (line t : List ℕ) → Says line i t → Misses p t → ⊥

abbrev Sorts : List Part → List Item → Type 0
Sorts [] [] = Unit {0}
Sorts [] (i ∷ is) = ⊥
Sorts (p ∷ ps) [] = ⊥
Sorts (p ∷ ps) (i ∷ is) = Sort p i × Sorts ps is

own : (w : List ℕ) → Sort (the w) (word w)
unfolding Sort
own w line t s m = m s

is_literal : (l : Literal) → Sort a_literal (literal l)
unfolding Sort
is_literal l line t s m = m (datum_of line l) s.0

is_kind : (k : Kind) → Sort a_kind (kind k)
unfolding Sort
is_kind k line t s m = m k s

is_number : (bits n : ℕ) → Sort (a_number bits) (number bits n)
unfolding Sort
is_number bits n line t s m = m n s

is_name : (s : Span) → Sort a_name (name s)
unfolding Sort
is_name s line t h m = m (bytes_at line s) h.0

is_column : (c : Column) → Sort a_column (column c)
unfolding Sort
is_column c line t s m = m c s

is_presence : (p : Presence) → Sort a_presence (word (presence_text p))
unfolding Sort
is_presence p line t s m = m p s

is_operator : (op : PredicateOperator) → Sort an_operator (word (operator_text op))
unfolding Sort
is_operator op line t s m = m op s

is_some_literal : (b : List ℕ) → Sort a_literal (some_literal b)
unfolding Sort
is_some_literal b line t s m = m s.1.0 s.1.1

-- words that say items of the wanted sorts have no fault
clash : (line : List ℕ) (e : ℕ) (ps : List Part) (is : List Item) (ws : List Word) (m : Malformed) → Sorts ps is → Spelt line is ws → Faulty e ps ws m → ⊥
unfolding Sort
clash line e [] [] [] m k s f = f
clash line e [] [] (w ∷ ws) m k s f = s
clash line e [] (i ∷ is) ws m k s f = k
clash line e (p ∷ ps) [] ws m k s f = k
clash line e (p ∷ ps) (i ∷ is) [] m k s f = s
clash line e (p ∷ ps) (i ∷ is) (w ∷ ws) m k s f =
    elim (when_false (m ≡ at_word F.OpenQuote w) _ s.0 f) [
      | inl h ↦ k.0 line w.text s.1.0 h.0
      | inr h ↦ clash line e ps is ws m k.1 s.1.1 h.1
    ]

-- the fault lies behind the first word
first : (line : List ℕ) (e : ℕ) (t : List ℕ) (is : List Item) (w : Word) (ws : List Word) (m : Malformed)
    → Spelt line (word t ∷ is) (w ∷ ws) → FaultyLine e (w ∷ ws) m → FaultyBehind e w ws (wanted t ws) m
first line e t is w ws m s f =
    let P : List ℕ → Type 0 = λ x. FaultyBehind e w ws (wanted x ws) m in
    subst P s.1.0 (when_false (m ≡ at_word F.OpenQuote w) (P w.text) s.0 f)

parent_sorts : (line : List ℕ) (parent : Option ℕ) (ws : List Word) → Spelt line (parent_items parent) ws → Sorts (parent_parts ws) (parent_items parent)
parent_sorts line None [] s = tt
parent_sorts line None (w ∷ ws) s = s
parent_sorts line (Some n) [] s = s
parent_sorts line (Some n) (w ∷ ws) s = (own (codes "in"), (is_number 64 n, tt))

field_sorts : (line : List ℕ) (n : ℕ) (s : Span) (c : Column) (p : Presence) (parent : Option ℕ) (ws : List Word)
    → Spelt line (number 32 n ∷ name s ∷ column c ∷ word (presence_text p) ∷ parent_items parent) ws
    → Sorts (a_number 32 ∷ a_name ∷ a_column ∷ a_presence ∷ parent_parts (drop 4 ws)) (number 32 n ∷ name s ∷ column c ∷ word (presence_text p) ∷ parent_items parent)
field_sorts line n s c p parent [] h = absurd h
field_sorts line n s c p parent (v ∷ []) h = absurd h.1.1
field_sorts line n s c p parent (v ∷ w ∷ []) h = absurd h.1.1.1.1
field_sorts line n s c p parent (v ∷ w ∷ x ∷ []) h = absurd h.1.1.1.1.1.1
field_sorts line n s c p parent (v ∷ w ∷ x ∷ y ∷ ws) h = (is_number 32 n, (is_name s, (is_column c, (is_presence p, parent_sorts line parent ws h.1.1.1.1.1.1.1.1))))

-- a literal has a colon, a cell's own words have none
abbrev has_colon : List ℕ → Bool
has_colon [] = false
has_colon (c ∷ cs) = eqb c 58 || has_colon cs

colon_in : (k v : List ℕ) → has_colon (k ++ (58 ∷ v)) ≡ true
colon_in [] v = refl
colon_in (c ∷ cs) v = or_right (eqb c 58) (has_colon (cs ++ (58 ∷ v))) (colon_in cs v)

other : (t w : List ℕ) → has_colon t ≡ true → has_colon w ≡ false → bytes_eq t w ≡ false
other t w h n =
    elim (cases_Bool (bytes_eq t w)) [
      | inl e ↦ absurd (false≢true (sym n ∙ ap has_colon (sym ((bytes_eq-Decides t w).0 e)) ∙ h))
      | inr e ↦ e
    ]

cell_sorts : (line : List ℕ) (c : CellWord) (ws : List Word) → Spelt line (cell_items c) ws → Sorts (cell_parts ws) (cell_items c)
cell_sorts line W.Null [] s = absurd s
cell_sorts line (W.Value l) [] s = absurd s
cell_sorts line (W.Group a b) [] s = absurd s
cell_sorts line W.List [] s = absurd s
cell_sorts line W.Null (w ∷ ws) s = rw s.1.0 (own (codes "null"), tt)
cell_sorts line (W.Group a b) (w ∷ ws) s = rw s.1.0 (own (codes "group"), (is_number 64 a, (is_number 64 b, tt)))
cell_sorts line W.List (w ∷ ws) s = rw s.1.0 (own (codes "list"), tt)
cell_sorts line (W.Value l) (w ∷ ws) s =
    let h : has_colon w.text ≡ true = ap has_colon s.1.0.0.2.0 ∙ colon_in s.1.0.0.0 s.1.0.0.1 in
    rw (other w.text (codes "null") h refl, other w.text (codes "group") h refl, other w.text (codes "list") h refl) (is_literal l, tt)

-- as many literals as words
literal_sorts : (line : List ℕ) (vs ws : List Word) → Spelt line (literal_items vs) ws → Sorts (literal_parts ws) (literal_items vs)
literal_sorts line [] [] s = tt
literal_sorts line [] (w ∷ ws) s = s
literal_sorts line (v ∷ vs) [] s = s
literal_sorts line (v ∷ vs) (w ∷ ws) s = (is_some_literal v.text, literal_sorts line vs ws s.1.1)

lay_sorts : (line : List ℕ) (n : Span) (op : PredicateOperator) (vs ws : List Word) → Spelt line (name n ∷ word (operator_text op) ∷ literal_items vs) ws
    → Sorts (a_name ∷ an_operator ∷ literal_parts (drop 2 ws)) (name n ∷ word (operator_text op) ∷ literal_items vs)
lay_sorts line n op vs [] s = absurd s
lay_sorts line n op vs (v ∷ []) s = absurd s.1.1
lay_sorts line n op vs (v ∷ w ∷ ws) s = (is_name n, (is_operator op, literal_sorts line vs ws s.1.1.1.1))

no_command : (line : List ℕ) (e : ℕ) (ws : List Word) (m : Malformed) → FaultyLine e ws m → (c : Command) → Spelt line (spelling line c) ws → ⊥
no_command line e [] m f c s = f
no_command line e (w ∷ ws) m f (C.Equal a b) s =
    clash line e (a_literal ∷ a_literal ∷ []) (literal a ∷ literal b ∷ []) ws m (is_literal a, (is_literal b, tt)) s.1.1 (first line e (codes "equal") (literal a ∷ literal b ∷ []) w ws m s f)
no_command line e (w ∷ ws) m f (C.Compare a b) s =
    clash line e (a_literal ∷ a_literal ∷ []) (literal a ∷ literal b ∷ []) ws m (is_literal a, (is_literal b, tt)) s.1.1 (first line e (codes "compare") (literal a ∷ literal b ∷ []) w ws m s f)
no_command line e (w ∷ ws) m f (C.Convert a k) s =
    let is : List Item = literal a ∷ word (codes "to") ∷ kind k ∷ [] in
    clash line e (a_literal ∷ the (codes "to") ∷ a_kind ∷ []) is ws m (is_literal a, (own (codes "to"), (is_kind k, tt))) s.1.1 (first line e (codes "convert") is w ws m s f)
no_command line e (w ∷ ws) m f (C.Field n t c p parent) s =
    let is : List Item = number 32 n ∷ name t ∷ column c ∷ word (presence_text p) ∷ parent_items parent in
    clash line e (a_number 32 ∷ a_name ∷ a_column ∷ a_presence ∷ parent_parts (drop 4 ws)) is ws m (field_sorts line n t c p parent ws s.1.1) s.1.1 (first line e (codes "field") is w ws m s f)
no_command line e (w ∷ ws) m f C.Schema s = clash line e [] [] ws m tt s.1.1 (first line e (codes "schema") [] w ws m s f)
no_command line e (w ∷ ws) m f (C.Find t true) s = clash line e (a_name ∷ []) (name t ∷ []) ws m (is_name t, tt) s.1.1 (first line e (codes "find-any-case") (name t ∷ []) w ws m s f)
no_command line e (w ∷ ws) m f (C.Find t false) s = clash line e (a_name ∷ []) (name t ∷ []) ws m (is_name t, tt) s.1.1 (first line e (codes "find") (name t ∷ []) w ws m s f)
no_command line e (w ∷ ws) m f (C.Row n) s = clash line e (a_number 64 ∷ []) (number 64 n ∷ []) ws m (is_number 64 n, tt) s.1.1 (first line e (codes "row") (number 64 n ∷ []) w ws m s f)
no_command line e (w ∷ ws) m f (C.Cell c) s = clash line e (cell_parts ws) (cell_items c) ws m (cell_sorts line c ws s.1.1) s.1.1 (first line e (codes "cell") (cell_items c) w ws m s f)
no_command line e (w ∷ ws) m f (C.Get t) s = clash line e (a_name ∷ []) (name t ∷ []) ws m (is_name t, tt) s.1.1 (first line e (codes "get") (name t ∷ []) w ws m s f)
no_command line e (w ∷ ws) m f (C.Constant true) s = clash line e [] [] ws m tt s.1.1 (first line e (codes "always-true") [] w ws m s f)
no_command line e (w ∷ ws) m f (C.Constant false) s = clash line e [] [] ws m tt s.1.1 (first line e (codes "always-false") [] w ws m s f)
no_command line e (w ∷ ws) m f (C.Lay n op at) s =
    let is : List Item = name n ∷ word (operator_text op) ∷ literal_items (words_from line at) in
    clash line e (a_name ∷ an_operator ∷ literal_parts (drop 2 ws)) is ws m (lay_sorts line n op (words_from line at) ws s.1.1) s.1.1 (first line e (codes "lay") is w ws m s f)
no_command line e (w ∷ ws) m f (C.And a b) s = clash line e (a_number 16 ∷ a_number 16 ∷ []) (number 16 a ∷ number 16 b ∷ []) ws m (is_number 16 a, (is_number 16 b, tt)) s.1.1 (first line e (codes "and") (number 16 a ∷ number 16 b ∷ []) w ws m s f)
no_command line e (w ∷ ws) m f (C.Or a b) s = clash line e (a_number 16 ∷ a_number 16 ∷ []) (number 16 a ∷ number 16 b ∷ []) ws m (is_number 16 a, (is_number 16 b, tt)) s.1.1 (first line e (codes "or") (number 16 a ∷ number 16 b ∷ []) w ws m s f)
no_command line e (w ∷ ws) m f (C.Not a) s = clash line e (a_number 16 ∷ []) (number 16 a ∷ []) ws m (is_number 16 a, tt) s.1.1 (first line e (codes "not") (number 16 a ∷ []) w ws m s f)
no_command line e (w ∷ ws) m f (C.Negate a) s = clash line e (a_number 16 ∷ []) (number 16 a ∷ []) ws m (is_number 16 a, tt) s.1.1 (first line e (codes "negate") (number 16 a ∷ []) w ws m s f)
no_command line e (w ∷ ws) m f (C.Rewrite a) s = clash line e (a_number 16 ∷ []) (number 16 a ∷ []) ws m (is_number 16 a, tt) s.1.1 (first line e (codes "rewrite") (number 16 a ∷ []) w ws m s f)
no_command line e (w ∷ ws) m f (C.Show a) s = clash line e (a_number 16 ∷ []) (number 16 a ∷ []) ws m (is_number 16 a, tt) s.1.1 (first line e (codes "show") (number 16 a ∷ []) w ws m s f)
no_command line e (w ∷ ws) m f C.Book s = clash line e [] [] ws m tt s.1.1 (first line e (codes "book") [] w ws m s f)

pub spells_none : (line : List ℕ) (r : Result (Option Command) Malformed) → Read line r → SpellsNone line r
spells_none line (Ok o) h = tt
spells_none line (Err m) h = no_command line (length line) (words line) m h.1
