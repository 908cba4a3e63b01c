use Rattle.judges.proofs.Counting.{counts_unknown_as_false}
use Rattle.judges.proofs.evaluator.eval.Goals as goal

pub returns-clause-counts_unknown_as_false : goal.returns-clause-counts_unknown_as_false
returns-clause-counts_unknown_as_false g c = counts_unknown_as_false (g.R.Row.reached c.args.row.now)
