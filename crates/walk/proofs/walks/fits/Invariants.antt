use Rattle.std.proofs.Common.{◌+◌, length}
use Rattle.nodes.specs.Tables.{filter_at}
use Rattle.walk.specs.Steps.{waiting}
use Rattle.walk.specs.Visits.{size}
use Rattle.walk.proofs.Rooms.{Count, pending}
use Rattle.walk.proofs.walks.fits.Given as goal

abbrev pub invariant-nodes : goal.invariant-nodes
invariant-nodes g l = Count l.slots (size (filter_at l.slots l.n)) (length l.fn.work) l.rest l.at l.stack.frames.now l.stack.count

abbrev pub decreases-nodes : goal.decreases-nodes
decreases-nodes g l = size (filter_at l.slots l.at) + pending l.slots (waiting l.stack)
