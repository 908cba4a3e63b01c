use Rattle.columns.specs.Bound.{within}
use Rattle.book.specs.Ways.{tables, setting}
use Rattle.walk.proofs.Granted.{granted_whole, by_the_rules, told}
use Rattle.walk.proofs.walks.walk.Goals as goal

pub run-requires-clause-whole : goal.run-requires-clause-whole
run-requires-clause-whole g c = granted_whole (setting within c.args.book.now) (tables c.args.book.now) c.args.n _ _ _ c.in_ok-check.ensures.asks_in_order

pub returns-clause-goes_by_the_rules : goal.returns-clause-goes_by_the_rules
returns-clause-goes_by_the_rules g c = by_the_rules (setting within c.args.book.now) (tables c.args.book.now) c.args.n _ _ _ c.in_ok-check.ensures.asks_in_order (g.V.Visitor.meaning c.args.visitor.now) c.args.book.now.places.now _ c.run.ensures.visits_the_filter

pub returns-clause-tells_what_the_filter_means : goal.returns-clause-tells_what_the_filter_means
returns-clause-tells_what_the_filter_means g c = told (setting within c.args.book.now) (tables c.args.book.now) c.args.n _ _ _ c.in_ok-check.ensures.asks_in_order (g.V.Visitor.meaning c.args.visitor.now) c.args.book.now.places.now _ c.run.ensures.visits_the_filter
