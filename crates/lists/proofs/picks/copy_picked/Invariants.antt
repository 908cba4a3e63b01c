use Rattle.std.proofs.Common.{◌≡◌, take}
use Rattle.lists.specs.Keep.{placed}
use Rattle.lists.specs.Picks.{chosen}
use Rattle.lists.proofs.picks.copy_picked.Given as goal

abbrev pub invariant-loop-i : goal.invariant-loop-i
invariant-loop-i g l = l.items ≡ placed l.initial.items l.start (chosen l.from (take l.i l.picks))
