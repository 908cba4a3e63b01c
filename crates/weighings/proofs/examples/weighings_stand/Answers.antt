use Rattle.std.proofs.Common.{refl}
use lib.Ieee.{to_bits}
use Rattle.weighings.proofs.examples.weighings_stand.Goals as goal

pub returns : goal.returns
unfolding to_bits
returns c =
    record {
      follow_from_the_rules = record {
        stays = refl;
        above = refl;
        below = refl;
        nanos = refl;
        nanos_below = refl;
        one_extreme = refl;
        zeros_differ = refl;
        zeros_ordered = refl;
        nan_above = refl;
        nan_itself = refl;
        time_refused = refl;
        text_refused = refl;
        prefix_first = refl;
        kinds_apart = refl;
        negated_join = λ a v literal. refl;
        rewritten_to_false = λ a. refl;
      };
    }
