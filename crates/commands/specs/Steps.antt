-- What the readers of one word or a few promise, so that their promises join.
use Rattle.std.specs.Prelude.{◌≡◌, ℕ, true, false, List, [], ◌∷◌, length, Some, None, Ok, Err, Option, Result}
use Rattle.values.specs.declared.literals.Span.{Span}
use Rattle.values.specs.Contents.{bytes_at, inside}
use Rattle.reading.specs.Words.{Word, words_from}
use Rattle.reading.specs.declared.words.Word.{Word as Placed}
use Rattle.reading.specs.declared.words.Words.{Words}
use Rattle.reading.specs.NextWord.{word_at, words_left, Steps}
use Rattle.commands.specs.declared.command.Command.{Command}
use Rattle.commands.specs.declared.command.Malformed.{Malformed}
use Rattle.commands.specs.Spelling.{Item, Says, Spelt, spelling}
use Rattle.commands.specs.Grammar.{Part, Misses, Faulty, FaultyBehind, open_quote, wanted}

-- a word at a span is read as an item of the part, or is none
abbrev pub WordRead : {X : Type 0} → Part → (X → Item) → List ℕ → Span → Option X → Type 0
WordRead p item line s None = Misses p (bytes_at line s)
WordRead p item line s (Some x) = (inside (length line) s ≡ true → Says line (item x) (bytes_at line s)) × (Misses p (bytes_at line s) → ⊥)

-- the next word of s, without an open quote, is passed
abbrev pub WordFrom : Words → Words → Result Placed Malformed → Type 0
WordFrom s t (Ok w) = Steps s (Some w) t × (open_quote (word_at s.line.now w.place) ≡ false)
WordFrom s t (Err m) = (p : Part) (ps : List Part) → Faulty (length s.line.now) (p ∷ ps) (words_left s) m

-- the next word says the item, and the others begin at `next`
abbrev pub NextItem : List ℕ → ℕ → Part → Item → ℕ → Type 0
NextItem line n p i next =
    (w : Word) × ((words_from line n ≡ w ∷ words_from line next) × ((open_quote w ≡ false) × (Says line i w.text × (Misses p w.text → ⊥))))

-- t is left of the line of s where the next word says the item
abbrev pub Passed : Words → Part → Item → Words → Type 0
Passed s p i t = (t.line ≡ s.line) × NextItem s.line.now s.at p i t.at

-- one word is taken
abbrev pub Takes : {X : Type 0} → Part → (X → Item) → Words → Words → Result X Malformed → Type 0
Takes p item s t (Ok x) = Passed s p (item x) t
Takes p item s t (Err m) = (ps : List Part) → Faulty (length s.line.now) (p ∷ ps) (words_left s) m

-- a word of the command's own is taken
abbrev pub Passes : List ℕ → Words → Words → Result (Unit {0}) Malformed → Type 0
Passes w s t (Ok u) = Passed s (Part.the w) (Item.word w) t
Passes w s t (Err m) = (ps : List Part) → Faulty (length s.line.now) (Part.the w ∷ ps) (words_left s) m

-- no word is left
abbrev pub Ends : Words → Result (Unit {0}) Malformed → Type 0
Ends s (Ok u) = words_left s ≡ []
Ends s (Err m) = Faulty (length s.line.now) [] (words_left s) m

-- all words that are left are taken
abbrev pub Done : {X : Type 0} → List Part → (X → List Item) → Words → Result X Malformed → Type 0
Done ps items s (Ok x) = Spelt s.line.now (items x) (words_left s)
Done ps items s (Err m) = Faulty (length s.line.now) ps (words_left s) m

-- a command's first word w is followed by its other words
abbrev pub CommandRead : List ℕ → Word → List Word → Result Command Malformed → Type 0
CommandRead line w ws (Ok c) = Spelt line (spelling line c) (w ∷ ws)
CommandRead line w ws (Err m) = FaultyBehind (length line) w ws (wanted w.text ws) m

-- behind a command's first word t, wherever it stood, the other words follow
abbrev pub Follows : List ℕ → Words → Result Command Malformed → Type 0
Follows t s r = (place : ℕ) → CommandRead s.line.now (record { place = place; text = t }) (words_left s) r
