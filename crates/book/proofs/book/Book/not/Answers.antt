use Rattle.std.proofs.Common.{refl, arith, length-set}
use Rattle.std.proofs.lemmas.Grind.{common_steps}
use Rattle.std.proofs.lemmas.Result.{err_from_is_err_and}
use Rattle.nodes.specs.declared.slots.Mark.TheVariants.{Joined}
use Rattle.book.specs.Calls.{not_after}
use Rattle.book.specs.Ways.{tables, setting}
use Rattle.book.proofs.Edited.{mark_is}
use Rattle.book.proofs.Called.{granted_one, granted_room, over_full, over_laid, refuses, does}
use Rattle.book.proofs.book.Book.not.Goals as goal

pub returns-in_err-check_one : goal.returns-in_err-check_one
unfolding not_after
returns-in_err-check_one g c = record { does_what_is_asked = does _ _ _ _ _ (grind (arith, common_steps, refuses)) refl }

pub returns-in_err-check_room : goal.returns-in_err-check_room
returns-in_err-check_room g c =
    let p = err_from_is_err_and c.from_residual-in_err-check_room.result c.from_residual-in_err-check_room.ensures.1 in
    record { does_what_is_asked = does _ _ _ _ _ (rw (p.1, p.2) (over_full (setting g.T.Term.within c.args.self.now) (tables c.args.self.now) c.args.a _ _ _ c.in_ok-check_one.ensures.asks_tables_first _ c.in_err-check_room.ensures.asks_for_a_node)) refl }

pub push-requires-clause-room : goal.push-requires-clause-room
push-requires-clause-room g c = simp length-set (granted_room _ _ _ _ c.in_ok-check_room.ensures.asks_for_a_node)

pub returns : goal.returns
returns g c =
    let s = setting g.T.Term.within c.args.self.now in
    let b = tables c.args.self.now in
    let h = c.in_ok-check_one.ensures.asks_tables_first in
    record { does_what_is_asked = does _ _ _ _ _ (over_laid s b c.args.a _ _ _ h _ _ _ c.in_ok-check_room.ensures.asks_for_a_node (mark_is b.slots c.args.a _ Joined (granted_one s b c.args.a _ _ h).inside) c.push.ensures.lays_it) c.push.ensures.reads_the_same_text }
