use Rattle.std.proofs.lemmas.Slice.Eq.{slice_eq-Decides}
use Rattle.reading.proofs.kinds.spells.Goals as goal
use Rattle.std.proofs.lemmas.Bool.Decides.{Decides-eqb}

pub returns : goal.returns
returns c = record { tells_equal_bytes = slice_eq-Decides Decides-eqb _ _ _ c.eq.ensures }
