use Rattle.std.proofs.Common.{◌≡◌, length}
use Rattle.commands.specs.Spelling.{Spelt, literal_items}
use Rattle.commands.specs.Grammar.{Faulty, literal_parts}
use Rattle.commands.specs.declared.command.Malformed.{Malformed}
use Rattle.reading.specs.NextWord.{words_left}
use Rattle.commands.proofs.lines.literals.Given as goal

-- what is found of the words that are left holds of all
abbrev pub invariant-loop-reader : goal.invariant-loop-reader
invariant-loop-reader l =
    (l.reader.words.line ≡ l.fn.reader.words.line)
    × (((m : Malformed) → Faulty (length l.reader.words.line.now) (literal_parts (words_left l.reader.words)) (words_left l.reader.words) m
    → Faulty (length l.fn.reader.words.line.now) (literal_parts (words_left l.fn.reader.words)) (words_left l.fn.reader.words) m)
    × (Spelt l.reader.words.line.now (literal_items (words_left l.reader.words)) (words_left l.reader.words)
    → Spelt l.fn.reader.words.line.now (literal_items (words_left l.fn.reader.words)) (words_left l.fn.reader.words)))

abbrev pub decreases-loop-reader : goal.decreases-loop-reader
decreases-loop-reader l = length (words_left l.reader.words)
