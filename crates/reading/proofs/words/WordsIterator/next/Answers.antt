use Rattle.std.proofs.Common.{◌+◌, length, refl, rules}
use Rattle.std.proofs.lemmas.Bool.{leb-true}
use Rattle.reading.specs.NextWord.{Found}
use Rattle.reading.proofs.Found.{next_found, next_none, one_fewer}
use Rattle.reading.proofs.words.WordsIterator.next.Goals as goal
use Rattle.reading.proofs.words.WordsIterator.next.Goals.{After-word_len-len}

read : (c : After-word_len-len) → Found c.args.self.now.line.now c.args.self.now.at (record { start = c.args.self.now.at + c.in_ok-start.field-0; len = c.word_len-len.result })
read c =
    next_found c.args.self.now.line.now c.in_ok-rest.rest.now c.args.self.now.at c.in_ok-start.field-0 c.word_len-len.result
    c.in_ok-rest.ensures.lookup.0.2 c.in_ok-start.ensures.is_the_place_of_the_other c.word_len-len.ensures.takes_the_word

pub returns-in_err-start-clause-steps : goal.returns-in_err-start-clause-steps
returns-in_err-start-clause-steps c =
    rw c.from_residual-in_err-start.ensures
    (next_none c.args.self.now.line.now c.in_ok-rest.rest.now c.args.self.now.at c.in_ok-rest.ensures.lookup.0.2 c.in_err-start.ensures.is_the_place_of_the_other, refl)

pub overflow_add-self : goal.overflow_add-self
overflow_add-self c =
    let found = read (goal.at.overflow_add-self c).After-word_len-len in
    let within = leb-true (c.args.self.now.at + c.in_ok-start.field-0 + c.word_len-len.result) (length c.args.self.now.line.now) found.within in
    search rules

pub returns-clause-steps : goal.returns-clause-steps
returns-clause-steps c = (read (goal.at.returns-clause-steps c).After-word_len-len, (refl, (refl, refl)))

pub returns-clause-goes : goal.returns-clause-goes
returns-clause-goes c = one_fewer _ _ _ (read (goal.at.returns-clause-goes c).After-word_len-len, (refl, (refl, refl)))
