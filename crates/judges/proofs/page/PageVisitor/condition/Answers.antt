use Rattle.std.proofs.Common.{List, map, take, sym, ap, ◌∙◌}
use Rattle.std.proofs.lemmas.List.{take_min, take-map}
use Rattle.rows.specs.Reached.{RowFunction}
use Rattle.walk.specs.Tests.{tested}
use Rattle.judges.specs.Answers.{stands_or_beyond}
use Rattle.judges.specs.Visitors.{condition}
use Rattle.judges.specs.Pages.{no_row, marking}
use Rattle.judges.proofs.page.PageVisitor.condition.Goals as goal

pub returns : goal.returns
returns g c =
    let reach = g.R.Row.reached in
    let rows = c.args.self.now.rows.now in
    record {
      is_as_meant =
          c.judge_each.ensures.marks_each_row
          ∙ ap (λ (rs : List RowFunction). marking (λ row. condition stands_or_beyond row (tested c.args.test.now)) 0 rs no_row)
          (ap (λ n. map reach (take n rows)) c.min-count.ensures ∙ ap (map reach) (take_min 64 rows) ∙ sym (take-map reach 64 rows));
    }
