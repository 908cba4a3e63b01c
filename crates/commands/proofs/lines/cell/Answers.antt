use Rattle.std.proofs.Common.{◌≡◌, [], ◌∷◌, length, codes, Ok, Err, Bor, List, ℕ, refl, ap, ◌∙◌, rules}
use Rattle.std.specs.Result.{MatchResult}
use Rattle.std.proofs.lemmas.Result.{err_from_is_err_and}
use Rattle.values.specs.Contents.{bytes_at}
use Rattle.reading.specs.Ascii.{ascii_is_text}
use Rattle.reading.specs.NextWord.{word_at, words_left}
use Rattle.commands.specs.declared.command.CellWord.TheVariants as W
use Rattle.commands.specs.Spelling.{word, number}
use Rattle.commands.specs.Grammar.{the}
use Rattle.commands.proofs.Words.{named_or, unnamed_or, own_word, spelt}
use Rattle.commands.proofs.Forms.{no_cell_word, cell_value}
use Rattle.commands.proofs.lines.cell.Goals as goal
use Rattle.commands.proofs.lines.cell.Goals.{After-unwrap_or}

-- the word's bytes, in the line that is read
text : (c : After-unwrap_or) → c.text.result.now ≡ bytes_at c.args.reader.words.line.now c.in_ok-word.word.place
text c = c.text.ensures.are_the_bytes_there ∙ ap (λ (l : Bor (List ℕ)). bytes_at l.now c.in_ok-word.word.place) c.in_ok-word.ensures.is_the_next.0.1.0

pub returns-in_err-word : goal.returns-in_err-word
returns-in_err-word c =
    let p = err_from_is_err_and c.from_residual.result c.from_residual.ensures.1 in
    record { goes_by_the_next_word = rw (p.1, p.2) (no_cell_word (length c.args.reader.words.line.now) (words_left c.args.reader.words) c.in_err-word.field-0.0 c.in_err-word.ensures.is_the_next) }

pub returns-in_ok-start-in-group : goal.returns-in_ok-start-in-group
returns-in_ok-start-in-group c =
    let s = c.args.reader.words in
    let name = named_or s.line.now c.text.result.now c.in_ok-word.word.place c.as_str.result _ c.unwrap_or.result _ _ (text (goal.at.returns-in_ok-start-in-group c).After-unwrap_or) c.unwrap_or.ensures refl
    c.as_str.ensures.is_text_of_those_bytes c.in-group.is in
    record {
      goes_by_the_next_word =
          spelt s c.word.new.self.words (the (codes "group")) (word (codes "group")) (number 64 c.in_ok-start-in-group.start ∷ number 64 c.in_ok-start-in-group.count ∷ [])
          (own_word s c.word.new.self.words c.in_ok-word.word (codes "group") c.in_ok-word.ensures.is_the_next name) c.in_ok-start-in-group.ensures.takes_all;
    }

pub returns-in_default : goal.returns-in_default
returns-in_default c =
    let s = c.args.reader.words in
    let next = c.in_ok-word.ensures.is_the_next in
    let place = c.in_ok-word.word.place in
    let same = text (goal.at.returns-in_default c).After-unwrap_or in
    let read = c.as_str.ensures.is_text_of_those_bytes in
    let made : MatchResult c.last.result (λ x. c.map-in_default.result ≡ Ok (W.Value x)) (λ e. c.map-in_default.result ≡ Err e) = search rules in
    record {
      goes_by_the_next_word =
          cell_value s (word_at s.line.now place) (words_left c.word.new.self.words) c.last.result c.map-in_default.result (rw next.0.1.1.0 (rw next.0.1.1.1 next.0.0.first))
          (unnamed_or s.line.now c.text.result.now place c.as_str.result _ c.unwrap_or.result (codes "null") same c.unwrap_or.ensures (ascii_is_text (codes "null") refl) read c.in_default.not-null)
          (unnamed_or s.line.now c.text.result.now place c.as_str.result _ c.unwrap_or.result (codes "group") same c.unwrap_or.ensures (ascii_is_text (codes "group") refl) read c.in_default.not-group)
          (unnamed_or s.line.now c.text.result.now place c.as_str.result _ c.unwrap_or.result (codes "list") same c.unwrap_or.ensures (ascii_is_text (codes "list") refl) read c.in_default.not-list)
          c.last.ensures.takes_all made;
    }
