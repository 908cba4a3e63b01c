use Rattle.std.proofs.Common.{length, ◌∙◌}
use Rattle.std.proofs.lemmas.Result.{err_from_is_err_and}
use Rattle.reading.specs.NextWord.{words_left}
use Rattle.commands.proofs.Words.{first_literal, later_literal, spelt_literal}
use Rattle.commands.proofs.lines.literals.Goals as goal

pub loop-reader-preserved : goal.loop-reader-preserved
loop-reader-preserved c =
    let s = c.loop-reader.reader.words in
    let t = c.take.new.self.words in
    let l = c.in_ok-take.field-0 in
    let passed = c.in_ok-take.ensures.takes_the_argument in
    let kept = c.loop-reader.invariant in
    (passed.0 ∙ kept.0, (λ m f. kept.1.0 m (later_literal s t l m passed f), λ f. kept.1.1 (spelt_literal s t l passed f)))

pub returns-in_err-take : goal.returns-in_err-take
returns-in_err-take c =
    let s = c.loop-reader.reader.words in
    let p = err_from_is_err_and c.from_residual.result c.from_residual.ensures.1 in
    let m = c.in_err-take.field-0.0 in
    record { takes_literals_alone = rw (p.1, p.2) (c.loop-reader.invariant.1.0 m (first_literal (length s.line.now) (words_left s) m c.loop-reader-test.ensures.tells_the_end c.in_err-take.ensures.takes_the_argument)) }
