use Rattle.std.proofs.Common.{map}
use Rattle.judges.proofs.Agreement.{agrees_with_each_row}
use Rattle.judges.proofs.Pages.{pages_evenly}
use Rattle.judges.proofs.page.Page.new.Goals as goal

pub returns-clause-is_even_handed : goal.returns-clause-is_even_handed
returns-clause-is_even_handed g c = pages_evenly (map g.R.Row.reached c.args.rows.now)

pub returns-clause-says_each_rows_verdict : goal.returns-clause-says_each_rows_verdict
returns-clause-says_each_rows_verdict g c = agrees_with_each_row (map g.R.Row.reached c.args.rows.now)
