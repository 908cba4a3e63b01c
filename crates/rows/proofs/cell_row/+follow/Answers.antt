use Rattle.std.proofs.Common.{◌∙◌, arith, ltb-false, ltb-true}
use Rattle.std.proofs.lemmas.List.{take_rest}
use Rattle.rows.proofs.Following.{at_end, into_group}
use Rattle.rows.proofs.cell_row.+follow.Goals as goal

pub returns-in_default : goal.returns-in_default
returns-in_default t c = record { is_followed = at_end c.args.cells.now c.args.cell c.args.after c.args.places.now (omega (arith, ltb-true)) }

pub returns : goal.returns
returns t c =
    record {
      is_followed =
          simp (take_rest, c.from-place.ensures) at c.follow.ensures.is_followed
          ∙ into_group c.args.cells.now c.args.cell c.args.after c.in-Group.start c.in-Group.count c.args.places.now c.in-Group.is c.if-start-after.false (omega arith) (omega (arith, ltb-false)) (omega (arith, c.from-place.ensures, c.if-place-count.false));
    }
