-- The words of a line.
use Rattle.std.specs.Prelude.{ℕ, ◌+◌, Bool, false, cond, not, ◌&&◌, ◌||◌, List, [], ◌∷◌, drop, ◌==◌}

-- a space, a tab or a carriage return
abbrev pub blank : ℕ → Bool
blank c = c == 32 || (c == 9 || c == 13)

-- whether a quote is open after the byte: each double quote opens or closes
abbrev pub turned : ℕ → Bool → Bool
turned c quoted = cond (c == 34) (not quoted) quoted

-- a quote is open at the end of the bytes
abbrev pub left_open : Bool → List ℕ → Bool
left_open quoted [] = quoted
left_open quoted (c ∷ cs) = left_open (turned c quoted) cs

-- the bytes up to the first blank outside quotes
abbrev pub front : Bool → List ℕ → List ℕ
front quoted [] = []
front quoted (c ∷ cs) = cond (blank c && not quoted) [] (c ∷ front (turned c quoted) cs)

-- a word: its place in the line and its bytes
pub record Word : Type 0 where
  pub place : ℕ
  pub text : List ℕ

-- where a reader of the line stands: between words, or inside one, within quotes or not
pub data Stand : Type 0 where
  between : Stand
  inside : Bool → Stand

-- the words that begin in the bytes, the first of which is at place n of the line
abbrev pub words_on : Stand → ℕ → List ℕ → List Word
words_on between n [] = []
words_on between n (c ∷ cs) = cond (blank c) (words_on between (n + 1) cs) (record { place = n; text = front false (c ∷ cs) } ∷ words_on (inside (turned c false)) (n + 1) cs)
words_on (inside quoted) n [] = []
words_on (inside quoted) n (c ∷ cs) = cond (blank c && not quoted) (words_on between (n + 1) cs) (words_on (inside (turned c quoted)) (n + 1) cs)

-- the words of the line from place n on
abbrev pub words_from : List ℕ → ℕ → List Word
words_from line n = words_on between n (drop n line)

abbrev pub words : List ℕ → List Word
words line = words_on between 0 line
