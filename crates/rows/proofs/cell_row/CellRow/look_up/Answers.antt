use Rattle.std.proofs.Common.{◌≡◌, ℕ, List, Err, Option, Result, sym, ap, ◌∙◌}
use Rattle.std.proofs.lemmas.Result.{err_from_is_err_and}
use Rattle.values.specs.declared.kinds.Kind.{Kind}
use Rattle.values.specs.declared.literals.Literal.{Literal}
use Rattle.values.specs.declared.refusals.Reason.{Reason}
use Rattle.rows.specs.declared.cells.Cell.{Cell}
use Rattle.rows.specs.declared.cells.Cell.TheVariants as C
use Rattle.rows.specs.Cells.{row_cells, followed, read_if, looked_up}
use Rattle.rows.specs.Paths.{row_spot}
use Rattle.rows.proofs.Causes.{caused}
use Rattle.rows.proofs.cell_row.CellRow.look_up.Goals as goal

-- what was followed in the row's cells and then read is looked up
joined : (cells first : List Cell) (top : ℕ) (t places : List ℕ) (k : Kind) (f : Result Cell Reason) (r : Result (Option Literal) Reason) → first ≡ row_cells cells → f ≡ followed first (C.Group 0 top) 0 places → r ≡ read_if t k f → r ≡ looked_up cells top t places k
joined cells first top t places k f r d e h = h ∙ ap (read_if t k) (e ∙ ap (λ (xs : List Cell). followed xs (C.Group 0 top) 0 places) d)

pub returns-in_err-cell : goal.returns-in_err-cell
returns-in_err-cell c =
    let s = c.args.self.now in
    let p = err_from_is_err_and c.from_residual.result c.from_residual.ensures.1 in
    let e = joined s.cells.now c.row_cells.result.now s.top s.text.now c.args.places.now c.args.kind c.follow.result c.from_residual.result c.row_cells.ensures.are_the_first c.follow.ensures.is_followed (p.1 ∙ (ap Err p.2 ∙ ap (read_if s.text.now c.args.kind) (sym c.in_err-cell.was))) in
    record { is_looked_up = e; comes_exactly_from_its_cause = caused (row_cells s.cells.now) (row_spot s.top) s.text.now c.args.places.now c.args.kind c.from_residual.result e }

pub returns : goal.returns
returns c =
    let s = c.args.self.now in
    let e = joined s.cells.now c.row_cells.result.now s.top s.text.now c.args.places.now c.args.kind c.follow.result c.read.result c.row_cells.ensures.are_the_first c.follow.ensures.is_followed (c.read.ensures.is_read ∙ ap (read_if s.text.now c.args.kind) (sym c.in_ok-cell.was)) in
    record { is_looked_up = e; comes_exactly_from_its_cause = caused (row_cells s.cells.now) (row_spot s.top) s.text.now c.args.places.now c.args.kind c.read.result e }
