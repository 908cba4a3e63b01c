use Rattle.std.proofs.Common.{◌<◌, length, rules, arith}
use Rattle.book.specs.Ways.{tables, setting}
use Rattle.book.proofs.Called.{rewritten_low}
use Rattle.book.proofs.book.Book.rewrite.Goals as goal

pub offset_bounds-self-n : goal.offset_bounds-self-n
offset_bounds-self-n g c =
    let h : c.rewrite-n.result < length c.args.self.now.slots.now = omega (arith, rewritten_low (setting g.T.Term.within c.args.self.now) (tables c.args.self.now) c.args.folds c.args.a _ _ _ _ c.in_ok-check_one.ensures.asks_tables_first c.rewrite-n.ensures.answers_the_root c.rewrite-n.ensures.rewrites_in_place, c.rewrite-n.auto.slots) in
    search rules

pub bounds-self-n : goal.bounds-self-n
bounds-self-n g c = rewritten_low (setting g.T.Term.within c.args.self.now) (tables c.args.self.now) c.args.folds c.args.a _ _ _ _ c.in_ok-check_one.ensures.asks_tables_first c.rewrite-n.ensures.answers_the_root c.rewrite-n.ensures.rewrites_in_place

pub bounds-self-n-in_ok-check_one : goal.bounds-self-n-in_ok-check_one
bounds-self-n-in_ok-check_one g c = rewritten_low (setting g.T.Term.within c.args.self.now) (tables c.args.self.now) c.args.folds c.args.a _ _ _ _ c.in_ok-check_one.ensures.asks_tables_first c.rewrite-n.ensures.answers_the_root c.rewrite-n.ensures.rewrites_in_place
