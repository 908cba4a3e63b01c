use Rattle.judges.proofs.EvenHanded.{judges_evenly}
use Rattle.judges.proofs.three_valued.ThreeValued.new.Goals as goal

pub returns-clause-is_even_handed : goal.returns-clause-is_even_handed
returns-clause-is_even_handed g c = judges_evenly (g.R.Row.reached c.args.row.now)
