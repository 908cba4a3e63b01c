use Rattle.std.proofs.Common.{◌≡◌, ◌+◌, false, length, drop}
use Rattle.reading.specs.Words.{front}
use Rattle.reading.proofs.words.word_len.Given as goal

abbrev pub invariant-loop-i : goal.invariant-loop-i
invariant-loop-i l = l.i + length (front l.quoted (drop l.i l.text)) ≡ length (front false l.text)
