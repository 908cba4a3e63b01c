-- The three-valued visitor is even-handed.
use Rattle.std.proofs.Common.{◌≡◌, Bool, true, false, not, List, Some, None, Option, Ordering, Less, Equal, Greater, Ok, Err, Result, option_map, refl, ap, ◌∙◌}
use Rattle.std.specs.Ordering.{is_lt, is_le, is_gt, is_ge}
use Rattle.values.specs.Contents.{Datum}
use Rattle.filters.specs.Meanings.{EvenHanded, then, Fine}
use Rattle.nodes.specs.declared.operators.PredicateOperator.{PredicateOperator}
use Rattle.nodes.specs.declared.operators.PredicateOperator.TheVariants as O
use Rattle.nodes.specs.Operators.{inverse}
use Rattle.nodes.specs.Conditions.{unary, binary, among, opposite}
use Rattle.rows.specs.Reached.{RowFunction}
use Rattle.walk.specs.declared.faults.Fault.{Fault}
use Rattle.walk.specs.Tests.{Tested}
use Rattle.judges.specs.declared.verdicts.Verdict.{Verdict}
use Rattle.judges.specs.declared.verdicts.Verdict.TheVariants.{True, False, Unknown}
use Rattle.judges.specs.Verdicts.{sure, known, turned, both, either}
use Rattle.judges.specs.Reading.{value_at}
use Rattle.judges.specs.Answers.{answer, stands_or_beyond}
use Rattle.judges.specs.Visitors.{condition, judging}

-- ---- verdicts

pub turned_twice : (x : Verdict) → turned (turned x) ≡ x
turned_twice True = refl
turned_twice False = refl
turned_twice Unknown = refl

turned_both : (x y : Verdict) → turned (both x y) ≡ either (turned x) (turned y)
turned_both True y = refl
turned_both False y = refl
turned_both Unknown True = refl
turned_both Unknown False = refl
turned_both Unknown Unknown = refl

turned_either : (x y : Verdict) → turned (either x y) ≡ both (turned x) (turned y)
turned_either True y = refl
turned_either False y = refl
turned_either Unknown True = refl
turned_either Unknown False = refl
turned_either Unknown Unknown = refl

both_true : (x : Verdict) → both x True ≡ x
both_true True = refl
both_true False = refl
both_true Unknown = refl

either_true : (x : Verdict) → either x True ≡ True
either_true True = refl
either_true False = refl
either_true Unknown = refl

either_false : (x : Verdict) → either x False ≡ x
either_false True = refl
either_false False = refl
either_false Unknown = refl

both_false : (x : Verdict) → both x False ≡ False
both_false True = refl
both_false False = refl
both_false Unknown = refl

-- ---- opposite operators

sure_not : (b : Bool) → sure (not b) ≡ turned (sure b)
sure_not true = refl
sure_not false = refl

sure_is : (b : Bool) → sure b ≡ turned (sure (not b))
sure_is true = refl
sure_is false = refl

not_below : (o : Option Ordering) → known (option_map is_ge o) ≡ turned (known (option_map is_lt o))
not_below None = refl
not_below (Some Less) = refl
not_below (Some Equal) = refl
not_below (Some Greater) = refl

below : (o : Option Ordering) → known (option_map is_lt o) ≡ turned (known (option_map is_ge o))
below None = refl
below (Some Less) = refl
below (Some Equal) = refl
below (Some Greater) = refl

not_above : (o : Option Ordering) → known (option_map is_le o) ≡ turned (known (option_map is_gt o))
not_above None = refl
not_above (Some Less) = refl
not_above (Some Equal) = refl
not_above (Some Greater) = refl

above : (o : Option Ordering) → known (option_map is_gt o) ≡ turned (known (option_map is_le o))
above None = refl
above (Some Less) = refl
above (Some Equal) = refl
above (Some Greater) = refl

answer_opposite : (o : PredicateOperator) (s : Option Ordering) (v : Option Datum) (ls : List Datum) → answer (inverse o) s v ls ≡ turned (answer o s v ls)
answer_opposite O.IsNull s v ls = sure_not _
answer_opposite O.NotNull s v ls = sure_is _
answer_opposite O.IsNan s v ls = sure_not _
answer_opposite O.NotNan s v ls = sure_is _
answer_opposite O.LessThan s v ls = not_below s
answer_opposite O.LessThanOrEq s v ls = above s
answer_opposite O.GreaterThan s v ls = not_above s
answer_opposite O.GreaterThanOrEq s v ls = below s
answer_opposite O.Eq s v ls = sure_not _
answer_opposite O.NotEq s v ls = sure_is _
answer_opposite O.StartsWith s v ls = sure_not _
answer_opposite O.NotStartsWith s v ls = sure_is _
answer_opposite O.In s v ls = sure_not _
answer_opposite O.NotIn s v ls = sure_is _

-- ---- conditions

-- a result's answer turned round
abbrev pub turned_if : Result Verdict Fault → Result Verdict Fault
turned_if (Ok x) = Ok (turned x)
turned_if (Err e) = Err e

then_opposite : (o : PredicateOperator) (s : Option Datum → List Datum → Option Ordering) (ls : List Datum) (r : Result (Option Datum) Fault)
    → then r (λ v. Ok (answer (inverse o) (s v ls) v ls)) ≡ turned_if (then r (λ v. Ok (answer o (s v ls) v ls)))
then_opposite o s ls (Ok v) = ap Ok (answer_opposite o (s v ls) v ls)
then_opposite o s ls (Err e) = refl

pub condition_opposite : (s : Option Datum → List Datum → Option Ordering) (row : RowFunction) (c : Tested) → condition s row (opposite c) ≡ turned_if (condition s row c)
condition_opposite s row (unary o b) = then_opposite o s _ (value_at row b)
condition_opposite s row (binary o b l) = then_opposite o s _ (value_at row b)
condition_opposite s row (among o b ls) = then_opposite o s ls (value_at row b)

fine : (r : Result Verdict Fault) → Fine (λ x. true) r
fine (Ok x) = refl
fine (Err e) = tt

pub judges_evenly : (row : RowFunction) → EvenHanded opposite (judging row)
judges_evenly row =
    record {
      valid = λ x. true;
      top = True;
      bottom = False;
      meet = both;
      join = either;
      turn = turned;
      top_valid = refl;
      bottom_valid = refl;
      meet_valid = λ x y p q. refl;
      join_valid = λ x y p q. refl;
      turn_valid = λ x p. refl;
      on_valid = λ c. fine (condition stands_or_beyond row c);
      always_true = refl;
      always_false = refl;
      and_gives = λ x y p q. refl;
      or_gives = λ x y p q. refl;
      not_gives = λ x p. refl;
      turn_top = refl;
      turn_bottom = refl;
      turn_turn = λ x p. turned_twice x;
      turn_meet = λ x y p q. turned_both x y;
      turn_join = λ x y p q. turned_either x y;
      top_meet = λ x p. refl;
      meet_top = λ x p. both_true x;
      top_join = λ x p. refl;
      join_top = λ x p. either_true x;
      bottom_join = λ x p. refl;
      join_bottom = λ x p. either_false x;
      bottom_meet = λ x p. refl;
      meet_bottom = λ x p. both_false x;
      opposite_gives = λ c x h. condition_opposite stands_or_beyond row c ∙ ap turned_if h;
      opposite_faults = λ c e h. (e, condition_opposite stands_or_beyond row c ∙ ap turned_if h);
    }
