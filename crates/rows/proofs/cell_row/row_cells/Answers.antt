use Rattle.std.proofs.lemmas.List.{take_min}
use Rattle.rows.proofs.cell_row.row_cells.Goals as goal

pub returns : goal.returns
returns c = record { are_the_first = rw c.min.ensures (take_min 1024 c.args.cells.now) }
