use Rattle.std.proofs.Common.{◌≡◌, ℕ, List, ◌∷◌, length, true, codes, ltb, refl}
use Rattle.std.specs.List.{list_all}
use Rattle.values.specs.Contents.{bytes_at}
use Rattle.reading.specs.Ascii.{ascii_is_text}
use Rattle.reading.specs.NextWord.{word_at, words_left}
use Rattle.commands.proofs.Words.{named_or, unnamed_or}
use Rattle.commands.proofs.Forms.{dispatched, unknown}
use Rattle.commands.proofs.lines.command.Goals as goal
use Rattle.commands.proofs.lines.command.Goals.{After-unwrap_or}

named : (c : After-unwrap_or) (n : ℕ) (ns : List ℕ) → c.unwrap_or.result.now ≡ n ∷ ns → bytes_at c.args.first.line.now c.args.first.place ≡ n ∷ ns
named c n ns e =
    named_or c.args.first.line.now c.text.result.now c.args.first.place c.as_str.result _ c.unwrap_or.result n ns
    c.text.ensures.are_the_bytes_there c.unwrap_or.ensures refl c.as_str.ensures.is_text_of_those_bytes e

unnamed : (c : After-unwrap_or) (w : List ℕ) → list_all (λ d. ltb d 128) w ≡ true → (c.unwrap_or.result.now ≡ w → ⊥) → bytes_at c.args.first.line.now c.args.first.place ≡ w → ⊥
unnamed c w a n =
    unnamed_or c.args.first.line.now c.text.result.now c.args.first.place c.as_str.result _ c.unwrap_or.result w
    c.text.ensures.are_the_bytes_there c.unwrap_or.ensures (ascii_is_text w a) c.as_str.ensures.is_text_of_those_bytes n

pub returns-in-convert : goal.returns-in-convert
returns-in-convert c =
    let name = named (goal.at.returns-in-convert c).After-unwrap_or _ _ c.in-convert.is in
    record { goes_by_the_first_word = λ o. dispatched c.args.others.words (bytes_at c.args.first.line.now c.args.first.place) (codes "convert") c.args.first.place.start c.convert.result name c.convert.ensures.takes_literal_and_kind }

pub returns-in-field : goal.returns-in-field
returns-in-field c =
    let name = named (goal.at.returns-in-field c).After-unwrap_or _ _ c.in-field.is in
    record { goes_by_the_first_word = λ o. dispatched c.args.others.words (bytes_at c.args.first.line.now c.args.first.place) (codes "field") c.args.first.place.start c.field.result name c.field.ensures.takes_four_and_the_parent }

pub returns-in-lay : goal.returns-in-lay
returns-in-lay c =
    let name = named (goal.at.returns-in-lay c).After-unwrap_or _ _ c.in-lay.is in
    record { goes_by_the_first_word = λ o. dispatched c.args.others.words (bytes_at c.args.first.line.now c.args.first.place) (codes "lay") c.args.first.place.start c.lay.result name c.lay.ensures.takes_a_condition }

pub returns-in_default : goal.returns-in_default
returns-in_default c =
    let at = (goal.at.returns-in_default c).After-unwrap_or in
    let other = c.in_default in
    record {
      goes_by_the_first_word = λ o.
          rw c.at.ensures.begins_where_the_word_does
          (unknown (length c.args.others.words.line.now) (word_at c.args.first.line.now c.args.first.place) (words_left c.args.others.words)
          (unnamed at (codes "equal") refl other.not-equal)
          (unnamed at (codes "compare") refl other.not-compare)
          (unnamed at (codes "convert") refl other.not-convert)
          (unnamed at (codes "field") refl other.not-field)
          (unnamed at (codes "schema") refl other.not-schema)
          (unnamed at (codes "find") refl other.not-find)
          (unnamed at (codes "find-any-case") refl other.not-text)
          (unnamed at (codes "row") refl other.not-row)
          (unnamed at (codes "cell") refl other.not-cell)
          (unnamed at (codes "get") refl other.not-get)
          (unnamed at (codes "always-true") refl other.not-text-2)
          (unnamed at (codes "always-false") refl other.not-text-3)
          (unnamed at (codes "lay") refl other.not-lay)
          (unnamed at (codes "and") refl other.not-and)
          (unnamed at (codes "or") refl other.not-or)
          (unnamed at (codes "not") refl other.not-not)
          (unnamed at (codes "negate") refl other.not-negate)
          (unnamed at (codes "rewrite") refl other.not-rewrite)
          (unnamed at (codes "show") refl other.not-show)
          (unnamed at (codes "book") refl other.not-book));
    }
