use Rattle.std.proofs.Common.{length}
use Rattle.lists.proofs.Picking.{Going}
use Rattle.lists.proofs.picks.pick.Given as goal

abbrev pub invariant-loop-place : goal.invariant-loop-place
invariant-loop-place g l = Going (g.P.Test.passed l.policy) l.from (length l.initial.picks) l.picks l.end l.place
