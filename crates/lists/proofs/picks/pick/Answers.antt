use Rattle.std.proofs.Common.{arith}
use Rattle.lists.proofs.Picking.{going_none, going_dropped, going_kept, going_full, going_done}
use Rattle.lists.proofs.picks.pick.Goals as goal
use Rattle.lists.proofs.picks.pick.Goals.{in-Kept, in-Dropped}

pub loop-place-init : goal.loop-place-init
loop-place-init g c = going_none _ _ _

pub loop-place-preserved : goal.loop-place-preserved
loop-place-preserved g c =
    elim c.match-offer_to.branch [
      | in-Kept w ↦
          let said = w.in-Kept.ensures in
          rw (said.writes_the_kept_alone, w.end-is) (going_kept _ _ _ _ _ _ c.loop-place.invariant c.loop-place-test.true said.keeps_what_passes_against_none)
      | in-Dropped w ↦
          let said = w.in-Dropped.ensures in
          rw (said.writes_the_kept_alone, w.end-is) (going_dropped _ _ _ _ _ _ c.loop-place.invariant c.loop-place-test.true said.keeps_what_passes_against_none)
    ]

pub returns-in-Full : goal.returns-in-Full
returns-in-Full g c =
    let full = going_full _ _ _ _ _ _ c.loop-place.invariant c.loop-place-test.true c.in-Full.ensures.keeps_what_passes_against_none in
    record { picks_the_kept = omega (arith, c.offer_to.auto.items, c.loop-place.invariant.long) }

pub returns : goal.returns
returns g c =
    record { picks_the_kept = (omega (arith, c.loop-place.invariant.long, c.loop-place.invariant.within), c.loop-place.invariant.below, going_done _ _ _ _ _ _ c.loop-place.invariant c.loop-place-test.false) }
