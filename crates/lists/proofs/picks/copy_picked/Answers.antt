use Rattle.std.proofs.Common.{arith}
use Rattle.lists.proofs.Picking.{below_at, copied_more}
use Rattle.lists.proofs.picks.copy_picked.Goals as goal

pub offset_bounds-from-place : goal.offset_bounds-from-place
offset_bounds-from-place g c = omega (arith, below_at _ _ _ c.requires.picks_stand_within c.loop-i-test.true)

pub bounds-from-place : goal.bounds-from-place
bounds-from-place g c = omega (arith, below_at _ _ _ c.requires.picks_stand_within c.loop-i-test.true)

pub loop-i-preserved : goal.loop-i-preserved
loop-i-preserved g c = copied_more _ _ _ _ _ _ _ c.loop-i-test.true c.requires.picks_stand_within c.requires.has_room c.index-from-place.is c.loop-i.invariant
