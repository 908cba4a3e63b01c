use Rattle.lists.proofs.Runs.{clipped}
use Rattle.lists.proofs.offers.held.Goals as goal

pub returns : goal.returns
returns g c = record { are_the_run = clipped _ _ _ _ _ c.min-end.ensures c.min-start.ensures }
