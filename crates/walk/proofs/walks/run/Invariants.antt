use Rattle.nodes.specs.Tables.{filter_at}
use Rattle.walk.specs.Steps.{waiting, lent}
use Rattle.walk.specs.Visits.{visited}
use Rattle.walk.proofs.Turns.{Standing, left}
use Rattle.walk.proofs.walks.run.Given as goal

abbrev pub invariant-turns : goal.invariant-turns
invariant-turns g l =
    let m = g.V.Visitor.meaning l.visitor in
    let read = lent l.book.places.now l.book.text.now l.book.literals.now in
    Standing m read l.book.slots.now (visited m read (filter_at l.book.slots.now l.n)) l.stack.frames.now l.stack.count l.turn

abbrev pub decreases-turns : goal.decreases-turns
decreases-turns g l = left l.book.slots.now (waiting l.stack) l.turn
