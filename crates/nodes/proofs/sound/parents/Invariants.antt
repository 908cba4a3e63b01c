use Rattle.nodes.proofs.Counted.{Counted}
use Rattle.nodes.proofs.sound.parents.Given as goal

abbrev pub invariant-loop-slot : goal.invariant-loop-slot
invariant-loop-slot g l = Counted l.counts l.slots l.slot-index
