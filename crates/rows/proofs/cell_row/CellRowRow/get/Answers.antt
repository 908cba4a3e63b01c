use Rattle.std.proofs.Common.{◌≡◌, Some, None, Ok, Err, Option, Result, refl, ap}
use Rattle.values.specs.declared.literals.Literal.{Literal}
use Rattle.values.specs.declared.refusals.Reason.{Reason}
use Rattle.rows.specs.Reached.{said, IfFound}
use Rattle.rows.proofs.cell_row.CellRowRow.get.Goals as goal

each : (r : Result (Option Literal) Reason) (P : Literal → Type 0) → ((l : Literal) → r ≡ Ok (Some l) → P l) → IfFound r P
each (Ok None) P h = tt
each (Ok (Some l)) P h = h l refl
each (Err e) P h = tt

pub returns : goal.returns
returns c =
    let found = c.look_up.ensures.comes_exactly_from_its_cause.found in
    record {
      says_what_is_reached = ap (said c.args.self.now.text.now) c.look_up.ensures.is_looked_up;
      finds_the_kind_asked = each c.look_up.result _ (λ l e. ((found l).0 e).0);
      finds_no_extreme = each c.look_up.result _ (λ l e. ((found l).0 e).2);
      finds_text_inside = each c.look_up.result _ (λ l e. ((found l).0 e).3);
    }
