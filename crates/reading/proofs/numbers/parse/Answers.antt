use Rattle.std.proofs.Common.{inr}
use Rattle.reading.proofs.numbers.parse.Goals as goal

pub returns : goal.returns
returns g c = record { is_what_std_reads = inr (c.parse.result, (rw c.in_ok-as_str.ensures.is_text_of_those_bytes at c.parse.ensures.value, c.ok.ensures.value)) }
