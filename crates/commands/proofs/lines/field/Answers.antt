use Rattle.std.proofs.Common.{List, ◌∷◌, drop}
use Rattle.std.proofs.lemmas.Result.{err_from_is_err_and}
use Rattle.reading.specs.NextWord.{words_left}
use Rattle.commands.specs.Spelling.{number, name, column, word, presence_text}
use Rattle.commands.specs.Grammar.{Part, a_number, a_name, a_column, a_presence, parent_parts}
use Rattle.commands.proofs.Words.{later}
use Rattle.commands.proofs.Forms.{parent_fault}
use Rattle.commands.proofs.lines.field.Goals as goal

pub returns-in_err-number : goal.returns-in_err-number
returns-in_err-number c =
    let parents : List Part = parent_parts (drop 4 (words_left c.args.reader.words)) in
    let p = err_from_is_err_and c.from_residual.result c.from_residual.ensures.1 in
    record { takes_four_and_the_parent = λ place. rw (p.1, p.2) (c.in_err-number.ensures.takes_the_argument (a_name ∷ a_column ∷ a_presence ∷ parents)) }

pub returns-in_err-name : goal.returns-in_err-name
returns-in_err-name c =
    let m = c.in_err-name.field-0.0 in
    let parents : List Part = parent_parts (drop 4 (words_left c.args.reader.words)) in
    let p = err_from_is_err_and c.from_residual-in_err-name.result c.from_residual-in_err-name.ensures.1 in
    let fault = c.in_err-name.ensures.takes_the_argument (a_column ∷ a_presence ∷ parents) in
    let behind_number = later c.args.reader.words c.take.new.self.words (a_number 32) (number 32 c.in_ok-number.number) (a_name ∷ a_column ∷ a_presence ∷ parents) m c.in_ok-number.ensures.takes_the_argument fault in
    record { takes_four_and_the_parent = λ place. rw (p.1, p.2) behind_number }

pub returns-in_err-column : goal.returns-in_err-column
returns-in_err-column c =
    let m = c.in_err-column.field-0.0 in
    let parents : List Part = parent_parts (drop 4 (words_left c.args.reader.words)) in
    let p = err_from_is_err_and c.from_residual-in_err-column.result c.from_residual-in_err-column.ensures.1 in
    let fault = c.in_err-column.ensures.takes_the_argument (a_presence ∷ parents) in
    let behind_name = later c.take.new.self.words c.take-2.new.self.words a_name (name c.in_ok-name.name) (a_column ∷ a_presence ∷ parents) m c.in_ok-name.ensures.takes_the_argument fault in
    let behind_number = later c.args.reader.words c.take.new.self.words (a_number 32) (number 32 c.in_ok-number.number) (a_name ∷ a_column ∷ a_presence ∷ parents) m c.in_ok-number.ensures.takes_the_argument behind_name in
    record { takes_four_and_the_parent = λ place. rw (p.1, p.2) behind_number }

pub returns-in_err-presence : goal.returns-in_err-presence
returns-in_err-presence c =
    let m = c.in_err-presence.field-0.0 in
    let parents : List Part = parent_parts (drop 4 (words_left c.args.reader.words)) in
    let p = err_from_is_err_and c.from_residual-in_err-presence.result c.from_residual-in_err-presence.ensures.1 in
    let fault = c.in_err-presence.ensures.takes_the_argument parents in
    let behind_column = later c.take-2.new.self.words c.take-3.new.self.words a_column (column c.in_ok-column.column) (a_presence ∷ parents) m c.in_ok-column.ensures.takes_the_argument fault in
    let behind_name = later c.take.new.self.words c.take-2.new.self.words a_name (name c.in_ok-name.name) (a_column ∷ a_presence ∷ parents) m c.in_ok-name.ensures.takes_the_argument behind_column in
    let behind_number = later c.args.reader.words c.take.new.self.words (a_number 32) (number 32 c.in_ok-number.number) (a_name ∷ a_column ∷ a_presence ∷ parents) m c.in_ok-number.ensures.takes_the_argument behind_name in
    record { takes_four_and_the_parent = λ place. rw (p.1, p.2) behind_number }

pub returns-in_err-parent : goal.returns-in_err-parent
returns-in_err-parent c =
    let m = c.in_err-parent.field-0.0 in
    let parents : List Part = parent_parts (drop 4 (words_left c.args.reader.words)) in
    let p = err_from_is_err_and c.from_residual-in_err-parent.result c.from_residual-in_err-parent.ensures.1 in
    let fault = parent_fault c.args.reader.words c.take.new.self.words c.take-2.new.self.words c.take-3.new.self.words c.take-4.new.self.words
    (a_number 32) a_name a_column a_presence
    (number 32 c.in_ok-number.number) (name c.in_ok-name.name) (column c.in_ok-column.column) (word (presence_text c.in_ok-presence.presence)) m
    c.in_ok-number.ensures.takes_the_argument c.in_ok-name.ensures.takes_the_argument c.in_ok-column.ensures.takes_the_argument c.in_ok-presence.ensures.takes_the_argument
    c.in_err-parent.ensures.is_all_or_nothing in
    let behind_presence = later c.take-3.new.self.words c.take-4.new.self.words a_presence (word (presence_text c.in_ok-presence.presence)) parents m c.in_ok-presence.ensures.takes_the_argument fault in
    let behind_column = later c.take-2.new.self.words c.take-3.new.self.words a_column (column c.in_ok-column.column) (a_presence ∷ parents) m c.in_ok-column.ensures.takes_the_argument behind_presence in
    let behind_name = later c.take.new.self.words c.take-2.new.self.words a_name (name c.in_ok-name.name) (a_column ∷ a_presence ∷ parents) m c.in_ok-name.ensures.takes_the_argument behind_column in
    let behind_number = later c.args.reader.words c.take.new.self.words (a_number 32) (number 32 c.in_ok-number.number) (a_name ∷ a_column ∷ a_presence ∷ parents) m c.in_ok-number.ensures.takes_the_argument behind_name in
    record { takes_four_and_the_parent = λ place. rw (p.1, p.2) behind_number }
