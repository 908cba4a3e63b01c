use Rattle.comparison.proofs.Compared.{ordered}
use Rattle.comparison.proofs.data.Datum.partial_cmp.Goals as goal

pub returns-then-is_comparable-clause-is_an_order : goal.returns-then-is_comparable-clause-is_an_order
returns-then-is_comparable-clause-is_an_order c = ordered _ _
