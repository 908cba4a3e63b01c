use Rattle.std.proofs.Common.{◌<◌, length, refl, rules, arith}
use Rattle.std.proofs.lemmas.Grind.{common_steps}
use Rattle.book.specs.Calls.{negate_after}
use Rattle.book.specs.Ways.{tables, setting}
use Rattle.book.proofs.Called.{negated_low, refuses, grants, does}
use Rattle.book.proofs.book.Book.negate.Goals as goal

pub offset_bounds-self-n : goal.offset_bounds-self-n
offset_bounds-self-n g c =
    let h : c.flip-n.result < length c.args.self.now.slots.now = omega (arith, negated_low (setting g.T.Term.within c.args.self.now) (tables c.args.self.now) c.args.a _ _ _ _ c.in_ok-check_one.ensures.asks_tables_first c.flip-n.ensures.answers_the_root c.flip-n.ensures.negates_in_place, c.flip-n.auto.slots) in
    search rules

pub bounds-self-n : goal.bounds-self-n
bounds-self-n g c = negated_low (setting g.T.Term.within c.args.self.now) (tables c.args.self.now) c.args.a _ _ _ _ c.in_ok-check_one.ensures.asks_tables_first c.flip-n.ensures.answers_the_root c.flip-n.ensures.negates_in_place

pub bounds-self-n-in_ok-check_one : goal.bounds-self-n-in_ok-check_one
bounds-self-n-in_ok-check_one g c = negated_low (setting g.T.Term.within c.args.self.now) (tables c.args.self.now) c.args.a _ _ _ _ c.in_ok-check_one.ensures.asks_tables_first c.flip-n.ensures.answers_the_root c.flip-n.ensures.negates_in_place

pub returns-in_err-check_one : goal.returns-in_err-check_one
unfolding negate_after
returns-in_err-check_one g c = record { does_what_is_asked = does _ _ _ _ _ (grind (arith, common_steps, refuses)) refl }

pub returns : goal.returns
unfolding negate_after
returns g c = record { does_what_is_asked = does _ _ _ _ _ (grind (arith, common_steps, grants)) refl }
