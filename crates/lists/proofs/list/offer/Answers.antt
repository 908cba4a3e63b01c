use Rattle.lists.proofs.Tells.{held}
use Rattle.lists.proofs.list.offer.Goals as goal

pub returns : goal.returns
returns g c =
    let is = c.offer_to.ensures.keeps_what_passes_against_none in
    let table = c.offer_to.ensures.writes_the_kept_alone in
    let law = held _ (g.met.P.Reflexive.reflexive c.args.policy.now) c.args.items.now c.args.cells.start c.args.cells.end c.args.x c.offer_to.result is in
    record {
      keeps_what_equals_none_held = is;
      writes_the_kept_alone = table;
      holds_the_kept_last = rw table law.holds;
      has_an_equal_unless_full = rw table law.covered;
      no_two_become_equal = rw table law.distinct;
    }
