use Rattle.std.proofs.Common.{length}
use Rattle.rows.proofs.cell_row.+follow.Given as goal

abbrev pub decreases-follow : goal.decreases-follow
decreases-follow l = length l.places.now
