use Rattle.std.proofs.Common.{◌≡◌, map, drop}
use Rattle.rows.specs.Reached.{RowFunction}
use Rattle.walk.specs.Tests.{tested}
use Rattle.judges.specs.Answers.{stands_or_beyond}
use Rattle.judges.specs.Visitors.{condition}
use Rattle.judges.specs.Pages.{no_row, marking}
use Rattle.judges.proofs.page.judge_each.Given as goal

abbrev pub invariant-loop-at : goal.invariant-loop-at
invariant-loop-at g l =
    let judge = λ (row : RowFunction). condition stands_or_beyond row (tested l.test) in
    let rows = map g.R.Row.reached l.rows in
    marking judge l.at (drop l.at rows) l.words ≡ marking judge 0 rows no_row
