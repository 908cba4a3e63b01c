use Rattle.columns.specs.Bound.{within}
use Rattle.book.specs.Ways.{tables, setting}
use Rattle.walk.proofs.Granted.{whole_there}
use Rattle.walk.proofs.walks.check.Goals as goal

pub fits-requires : goal.fits-requires
fits-requires g c = whole_there (setting within c.args.book.now) (tables c.args.book.now) c.args.n c.in_default.ensures.names_the_lowest c.if-not-stands.ensures.is_used_and_marked
