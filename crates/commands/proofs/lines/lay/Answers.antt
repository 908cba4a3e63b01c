use Rattle.std.proofs.Common.{List, ◌∷◌, drop}
use Rattle.std.proofs.lemmas.Result.{err_from_is_err_and}
use Rattle.reading.specs.NextWord.{words_left}
use Rattle.commands.specs.Spelling.{name}
use Rattle.commands.specs.Grammar.{Part, a_name, an_operator, literal_parts}
use Rattle.commands.proofs.Words.{later}
use Rattle.commands.proofs.lines.lay.Goals as goal

pub returns-in_err-name : goal.returns-in_err-name
returns-in_err-name c =
    let literals : List Part = literal_parts (drop 2 (words_left c.args.reader.words)) in
    let p = err_from_is_err_and c.from_residual.result c.from_residual.ensures.1 in
    record { takes_a_condition = λ place. rw (p.1, p.2) (c.in_err-name.ensures.takes_the_argument (an_operator ∷ literals)) }

pub returns-in_err-operator : goal.returns-in_err-operator
returns-in_err-operator c =
    let m = c.in_err-operator.field-0.0 in
    let literals : List Part = literal_parts (drop 2 (words_left c.args.reader.words)) in
    let p = err_from_is_err_and c.from_residual-in_err-operator.result c.from_residual-in_err-operator.ensures.1 in
    record { takes_a_condition = λ place. rw (p.1, p.2) (later c.args.reader.words c.take.new.self.words a_name (name c.in_ok-name.name) (an_operator ∷ literals) m c.in_ok-name.ensures.takes_the_argument (c.in_err-operator.ensures.takes_the_argument literals)) }
