use Rattle.std.proofs.Common.{rules, refl, arith}
use Rattle.std.proofs.lemmas.Grind.{common_steps}
use Rattle.book.specs.Calls.{binary_after}
use Rattle.book.proofs.Called.{granted_first, stored_refuses, stored_grants, stored_inside, stored_few, refuses, does}
use Rattle.book.proofs.book.Book.lay_binary.Goals as goal

pub returns-in_err-check_leaf : goal.returns-in_err-check_leaf
unfolding binary_after
returns-in_err-check_leaf g c = record { does_what_is_asked = does _ _ _ _ _ (grind (arith, common_steps, refuses, granted_first)) refl }

pub push-requires-clause-room : goal.push-requires-clause-room
push-requires-clause-room g c = stored_inside _ _ _ _ c.in_ok-run.ensures.asks_for_room c.in_ok-run.ensures.stores_all_or_nothing

pub push-requires-clause-few : goal.push-requires-clause-few
push-requires-clause-few g c = stored_few _ _ _ _ c.in_ok-run.ensures.asks_for_room c.in_ok-run.ensures.stores_all_or_nothing

pub returns-in_err-run : goal.returns-in_err-run
unfolding binary_after
returns-in_err-run g c = record { does_what_is_asked = does _ _ _ _ _ (grind (arith, common_steps, stored_refuses)) (search rules) }

pub returns : goal.returns
unfolding binary_after
returns g c = record { does_what_is_asked = does _ _ _ _ _ (grind (arith, common_steps, stored_grants)) (search rules) }
