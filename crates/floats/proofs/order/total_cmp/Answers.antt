use Rattle.std.proofs.Common.{◌∙◌}
use Rattle.floats.proofs.Ranks.{placed_by_rank, lawful}
use Rattle.floats.proofs.order.total_cmp.Goals as goal

pub returns : goal.returns
returns g c =
    let fit = c.place.ensures.both_are_of_the_format in
    record {
      is_total_order = c.place.ensures.is_total_order;
      goes_by_bit_patterns = c.place.ensures.is_total_order ∙ placed_by_rank g.F.Floating.format _ _ fit.0 fit.1;
      obeys_the_laws = lawful g.F.Floating.format;
    }
