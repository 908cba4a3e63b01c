use Rattle.lists.proofs.Firsts.{covered, distinct, first}
use Rattle.lists.proofs.list.keep_first.Goals as goal

pub returns : goal.returns
returns g c =
    let p = g.P.Test.passed c.args.policy.now in
    record {
      answers_the_end = c.lay.ensures.answers_the_end;
      lays_all_or_nothing = c.lay.ensures.lays_all_or_nothing;
      each_has_an_equal = covered p (g.met.P.Reflexive.reflexive c.args.policy.now) c.args.from.now;
      no_two_are_equal = distinct p c.args.from.now;
      keeps_the_first_of_equals = first p (g.met.P.Equality.transitive c.args.policy.now) c.args.from.now;
    }
