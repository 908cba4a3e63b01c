use Rattle.std.proofs.Common.{rules, refl, arith}
use Rattle.std.proofs.lemmas.Grind.{common_steps}
use Rattle.book.specs.Calls.{constant_after}
use Rattle.book.proofs.Called.{refuses, grants, does}
use Rattle.book.proofs.book.Book.lay_constant.Goals as goal

pub returns-in_err-check : goal.returns-in_err-check
unfolding constant_after
returns-in_err-check g c = record { does_what_is_asked = does _ _ _ _ _ (grind (arith, common_steps, refuses)) refl }

pub returns : goal.returns
unfolding constant_after
returns g c = record { does_what_is_asked = does _ _ _ _ _ (grind (arith, common_steps, grants)) (search rules) }
