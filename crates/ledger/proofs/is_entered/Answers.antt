use Rattle.book.specs.Ways.{tables, setting}
use Rattle.ledger.proofs.Lawful.{law}
use Rattle.ledger.proofs.is_entered.Goals as goal

pub returns : goal.returns
returns g c = record { is_used_and_marked = c.stands.ensures.is_used_and_marked; keeps_every_wording = law (setting g.T.Term.within c.args.book.now) (tables c.args.book.now) }
