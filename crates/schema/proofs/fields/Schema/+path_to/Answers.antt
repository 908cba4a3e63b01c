use Rattle.std.proofs.Common.{None, refl}
use Rattle.schema.specs.Lines.{place}
use Rattle.schema.proofs.Places.{at_top, under, one_more, too_long_above}
use Rattle.schema.proofs.fields.Schema.+path_to.Goals as goal
use Rattle.schema.proofs.fields.Schema.+path_to.Goals.{in-None, in-Some+in_ok-above-in-Some}

pub returns-in_err-above-in-Some : goal.returns-in_err-above-in-Some
returns-in_err-above-in-Some t c =
    record { goes_down_the_line = rw c.from_residual.ensures (too_long_above _ _ _ _ c.in-Some.ensures.is_the_earlier_parent c.in_err-above-in-Some.ensures.goes_down_the_line) }

pub returns-then-is_full : goal.returns-then-is_full
returns-then-is_full t c =
    let fs = c.args.self.now.fields.now in
    record {
      goes_down_the_line =
          one_more fs c.args.field c.args.kind c.match-parent_of.above (place fs c.args.field) None
          (elim c.match-parent_of.branch [
            | in-None w ↦ at_top fs c.args.field c.args.kind _ w.of_kind-above.result w.in-None.ensures.is_the_earlier_parent w.above-is w.of_kind-above.ensures.has_no_place w.of_kind-above.ensures.is_of_the_kind
            | in-Some+in_ok-above-in-Some w ↦ under fs c.args.field w.in-Some.parent c.args.kind _ w.in_ok-above-in-Some.above w.in-Some.ensures.is_the_earlier_parent w.above-is w.in_ok-above-in-Some.ensures.goes_down_the_line
          ])
          refl
          (c.if-is_full.ensures.asks_for_eight.0 refl);
    }

pub returns : goal.returns
returns t c =
    let fs = c.args.self.now.fields.now in
    record {
      goes_down_the_line =
          one_more fs c.args.field c.args.kind c.match-parent_of.above c.place_of.result c.then.result
          (elim c.match-parent_of.branch [
            | in-None w ↦ at_top fs c.args.field c.args.kind _ w.of_kind-above.result w.in-None.ensures.is_the_earlier_parent w.above-is w.of_kind-above.ensures.has_no_place w.of_kind-above.ensures.is_of_the_kind
            | in-Some+in_ok-above-in-Some w ↦ under fs c.args.field w.in-Some.parent c.args.kind _ w.in_ok-above-in-Some.above w.in-Some.ensures.is_the_earlier_parent w.above-is w.in_ok-above-in-Some.ensures.goes_down_the_line
          ])
          c.place_of.ensures.counts_the_earlier_of_its_parent
          c.then.ensures.has_one_more;
    }
