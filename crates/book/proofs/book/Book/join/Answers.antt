use Rattle.std.proofs.Common.{Ok, ap, ◌∙◌, length-set}
use Rattle.std.proofs.lemmas.Result.{err_from_is_err_and}
use Rattle.nodes.specs.declared.slots.Mark.TheVariants.{Joined}
use Rattle.book.specs.declared.edits.Keep.TheVariants.{First, Second}
use Rattle.book.specs.Calls.{written}
use Rattle.book.specs.Edits.{marked}
use Rattle.book.specs.Ways.{tables, setting}
use Rattle.book.proofs.Edited.{mark_is}
use Rattle.book.proofs.Called.{granted_left, granted_right, granted_room, joins_by, joins_both, joins_full}
use Rattle.book.proofs.book.Book.join.Goals as goal

pub strike-requires : goal.strike-requires
strike-requires g c = granted_right (setting g.T.Term.within c.args.self.now) (tables c.args.self.now) _ _ _ _ c.in_ok-check_two.ensures.asks_two_that_stand

pub strike-requires-in-Second : goal.strike-requires-in-Second
strike-requires-in-Second g c = granted_left (setting g.T.Term.within c.args.self.now) (tables c.args.self.now) _ _ _ _ c.in_ok-check_two.ensures.asks_two_that_stand

pub bounds-self-b-in_ok-check_room-in-Both : goal.bounds-self-b-in_ok-check_room-in-Both
bounds-self-b-in_ok-check_room-in-Both g c = simp length-set (granted_right (setting g.T.Term.within c.args.self.now) (tables c.args.self.now) _ _ _ _ c.in_ok-check_two.ensures.asks_two_that_stand).inside

pub bounds-self-b-in_ok-check_room-in-Both-2 : goal.bounds-self-b-in_ok-check_room-in-Both-2
bounds-self-b-in_ok-check_room-in-Both-2 g c = simp length-set (granted_right (setting g.T.Term.within c.args.self.now) (tables c.args.self.now) _ _ _ _ c.in_ok-check_two.ensures.asks_two_that_stand).inside

pub push-requires-clause-room : goal.push-requires-clause-room
push-requires-clause-room g c = simp length-set (granted_room _ _ _ _ c.in_ok-check_room-in-Both.ensures.asks_for_a_node)

pub returns-in-First-clause-joins_or_folds : goal.returns-in-First-clause-joins_or_folds
returns-in-First-clause-joins_or_folds g c =
    let b = tables c.args.self.now in
    joins_by c.args.connective (setting g.T.Term.within c.args.self.now) b c.args.a c.args.b _ _ _ _ c.in_ok-check_two.ensures.asks_two_that_stand First (written _ b.used (Ok c.args.a)) c.in-First.ensures.goes_by_the_constants (λ i. written (c.strike.ensures.strikes_each_node i) b.used (Ok c.args.a))

pub returns-in-Second-clause-joins_or_folds : goal.returns-in-Second-clause-joins_or_folds
returns-in-Second-clause-joins_or_folds g c =
    let b = tables c.args.self.now in
    joins_by c.args.connective (setting g.T.Term.within c.args.self.now) b c.args.a c.args.b _ _ _ _ c.in_ok-check_two.ensures.asks_two_that_stand Second (written _ b.used (Ok c.args.b)) c.in-Second.ensures.goes_by_the_constants (λ i. written (c.strike-in-Second.ensures.strikes_each_node i) b.used (Ok c.args.b))

pub returns-in_err-check_room-in-Both-clause-joins_or_folds : goal.returns-in_err-check_room-in-Both-clause-joins_or_folds
returns-in_err-check_room-in-Both-clause-joins_or_folds g c =
    let p = err_from_is_err_and c.from_residual-in_err-check_room-in-Both.result c.from_residual-in_err-check_room-in-Both.ensures.1 in
    rw (p.1, p.2) (joins_full c.args.connective (setting g.T.Term.within c.args.self.now) (tables c.args.self.now) c.args.a c.args.b _ _ _ _ c.in_ok-check_two.ensures.asks_two_that_stand _ _ c.in-Both.ensures.goes_by_the_constants c.in_err-check_room-in-Both.ensures.asks_for_a_node)

pub returns-in_ok-check_room-in-Both-clause-joins_or_folds : goal.returns-in_ok-check_room-in-Both-clause-joins_or_folds
returns-in_ok-check_room-in-Both-clause-joins_or_folds g c =
    let b = tables c.args.self.now in
    let h = c.in_ok-check_two.ensures.asks_two_that_stand in
    let s = setting g.T.Term.within c.args.self.now in
    joins_both c.args.connective s b c.args.a c.args.b _ _ _ _ h _ _ _ _ _ c.in-Both.ensures.goes_by_the_constants c.in_ok-check_room-in-Both.ensures.asks_for_a_node c.joining.ensures.is_the_join
    (mark_is _ c.args.b _ Joined (simp length-set (granted_right s b _ _ _ _ h).inside) ∙ ap (marked c.args.b Joined) (mark_is b.slots c.args.a _ Joined (granted_left s b _ _ _ _ h).inside)) c.push.ensures.lays_it
