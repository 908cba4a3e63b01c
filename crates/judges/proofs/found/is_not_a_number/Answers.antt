use Rattle.std.proofs.Common.{◌∙◌}
use Rattle.std.specs.Float.{binary32, binary64}
use Rattle.judges.proofs.NotANumber.{told_by_place}
use Rattle.judges.proofs.found.is_not_a_number.Goals as goal

pub returns-in-Float : goal.returns-in-Float
returns-in-Float c = record { asks_the_storage = c.is_not_a_number.ensures.tells ∙ rw c.in-Float.is (told_by_place binary32 c.in-Float.x c.is_not_a_number.ensures.is_of_the_format) }

pub returns-in-Double : goal.returns-in-Double
returns-in-Double c = record { asks_the_storage = c.is_not_a_number-in-Double.ensures.tells ∙ rw c.in-Double.is (told_by_place binary64 c.in-Double.x c.is_not_a_number-in-Double.ensures.is_of_the_format) }
