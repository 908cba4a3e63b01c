-- The step from word to word.
use Rattle.std.specs.Prelude.{◌≡◌, ℕ, ◌+◌, ◌<◌, true, List, [], ◌∷◌, length, Some, None, Option}
use Rattle.values.specs.declared.literals.Span.{Span}
use Rattle.values.specs.Contents.{bytes_at, inside}
use Rattle.reading.specs.Words.{Word, words_from}
use Rattle.reading.specs.declared.words.Word.{Word as Placed}
use Rattle.reading.specs.declared.words.Words.{Words}

-- the word at a span of the line
abbrev pub word_at : List ℕ → Span → Word
word_at line s = record { place = s.start; text = bytes_at line s }

-- the span is the first word from place n on, whose bytes the line has, and the other words stand behind it
pub record Found (line : List ℕ) (n : ℕ) (s : Span) : Type 0 where
  pub first : words_from line n ≡ word_at line s ∷ words_from line (s.start + s.len)
  pub some : 0 < s.len
  pub within : inside (length line) s ≡ true

abbrev pub Next : List ℕ → ℕ → Option Span → Type 0
Next line n None = words_from line n ≡ []
Next line n (Some s) = Found line n s

-- a word's bytes, and the word as it stands in its line
abbrev pub text_of : Placed → List ℕ
text_of w = bytes_at w.line.now w.place

abbrev pub word_of : Placed → Word
word_of w = word_at w.line.now w.place

-- the words that are left
abbrev pub words_left : Words → List Word
words_left s = words_from s.line.now s.at

-- a call gave the first word of what was left and passed it; or none was left, and it stays where it was
abbrev pub Steps : Words → Option Placed → Words → Type 0
Steps s None t = Next s.line.now s.at None × (t ≡ s)
Steps s (Some w) t = Next s.line.now s.at (Some w.place) × ((w.line ≡ s.line) × ((t.line ≡ s.line) × (t.at ≡ w.place.start + w.place.len)))
