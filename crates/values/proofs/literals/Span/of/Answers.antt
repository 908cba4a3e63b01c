use Rattle.values.proofs.Spans.{clipped}
use Rattle.values.proofs.literals.Span.of.Goals as goal

pub returns : goal.returns
returns c = record { are_the_bytes_there = clipped _ _ _ _ _ c.cut-start.ensures.starts_inside c.cut-start.ensures.ends_inside }
