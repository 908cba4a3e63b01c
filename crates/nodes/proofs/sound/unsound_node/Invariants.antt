use Rattle.std.proofs.Common.{◌≡◌, None}
use Rattle.nodes.specs.Soundness.{fits, lowest, sound_at, used_of}
use Rattle.nodes.proofs.sound.unsound_node.Given as goal

abbrev pub invariant-loop-n : goal.invariant-loop-n
invariant-loop-n g l = lowest (sound_at (fits (g.T.Term.within l.extent) l.extent.text (used_of l.literals l.stored)) l.slots l.count) l.n ≡ None
