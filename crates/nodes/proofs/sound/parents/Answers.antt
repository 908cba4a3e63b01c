use Rattle.std.proofs.Common.{add-one, arith}
use Rattle.nodes.proofs.Found.{read}
use Rattle.nodes.proofs.Counted.{counted_none, counted_few, counted_more}
use Rattle.nodes.proofs.sound.parents.Goals as goal

pub claim-requires : goal.claim-requires
claim-requires g c = counted_few c.loop-slot.counts c.args.slots.now c.loop-slot.slot-index c.loop-slot.invariant (omega (arith, c.requires, c.loop-slot-test.true))

pub loop-slot-init : goal.loop-slot-init
loop-slot-init g c = counted_none c.args.slots.now

pub loop-slot-preserved : goal.loop-slot-preserved
loop-slot-preserved g c =
    let e = read c.args.slots.now c.loop-slot.slot-index c.slot-item.result c.loop-slot-test.true c.slot-item.is in
    rw add-one (counted_more c.loop-slot.counts c.claim.new.counts c.args.slots.now c.loop-slot.slot-index c.slot-item.result c.loop-slot.invariant e c.claim.ensures.raises_its_inputs)
