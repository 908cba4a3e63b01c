use Rattle.std.proofs.Common.{Err, add-one, ap, ◌∙◌}
use Rattle.std.proofs.lemmas.Result.{err_from_is_err_and}
use Rattle.walk.specs.Tests.{tested}
use Rattle.judges.specs.Answers.{stands_or_beyond}
use Rattle.judges.specs.Visitors.{condition}
use Rattle.judges.proofs.Pages.{goes_on, ends}
use Rattle.judges.proofs.page.judge_each.Goals as goal

pub returns-in_err-verdict : goal.returns-in_err-verdict
returns-in_err-verdict g c =
    let p = err_from_is_err_and c.from_residual.result c.from_residual.ensures.1 in
    record { marks_each_row = p.1 ∙ ap (λ d. Err d) p.2 ∙ ends g.R.Row.reached (λ row. condition stands_or_beyond row (tested c.args.test.now)) c.args.rows.now c.loop-at.at c.index-rows-at.result c.loop-at.words _ _ _ c.loop-at-test.true c.index-rows-at.is c.new.ensures.judges_the_row c.loop-at.invariant c.in_err-verdict.ensures.is_as_meant }

pub loop-at-preserved : goal.loop-at-preserved
loop-at-preserved g c =
    rw add-one (goes_on g.R.Row.reached (λ row. condition stands_or_beyond row (tested c.args.test.now)) c.args.rows.now c.loop-at.at c.index-rows-at.result c.loop-at.words _ _ _ _ c.loop-at-test.true c.index-rows-at.is c.new.ensures.judges_the_row c.loop-at.invariant c.in_ok-verdict.ensures.is_as_meant c.mark-words.ensures.sets_one_bit)
