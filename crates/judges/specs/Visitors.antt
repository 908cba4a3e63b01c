-- What each visitor means, over what a row reaches.
use Rattle.std.specs.Prelude.{Bool, ◌&&◌, ◌||◌, List, Ok, Err, Option, Result}
use Rattle.std.specs.declared.cmp.Ordering.{Ordering}
use Rattle.values.specs.Contents.{Datum}
use Rattle.filters.specs.Meanings.{Meaning, then}
use Rattle.rows.specs.Reached.{RowFunction}
use Rattle.walk.specs.declared.faults.Fault.{Fault}
use Rattle.walk.specs.declared.faults.Fault.TheVariants as F
use Rattle.walk.specs.Tests.{Tested}
use Rattle.judges.specs.declared.verdicts.Verdict.{Verdict}
use Rattle.judges.specs.Verdicts.{sure, is_true, turned, both as conjoined, either as disjoined}
use Rattle.judges.specs.Reading.{value_at, operator, column, literals}
use Rattle.judges.specs.Answers.{stands, stands_or_beyond, answer}

-- a condition's answer, with the word of where a value stands to literals; a refusal is handed on
abbrev pub condition : (Option Datum → List Datum → Option Ordering) → RowFunction → Tested → Result Verdict Fault
condition standing row c = then (value_at row (column c)) (λ v. Ok (answer (operator c) (standing v (literals c)) v (literals c)))

-- the evaluator: unknown counts as false, and a Not is a fault
abbrev pub evaluating : RowFunction → Meaning Bool Fault Tested
evaluating row =
    record {
      always = λ b. Ok b;
      on = λ c. then (condition stands row c) (λ v. Ok (is_true v));
      both = λ x y. Ok (x && y);
      either = λ x y. Ok (x || y);
      other = λ x. Err F.NotMet;
    }

-- the three-valued visitor: an extreme literal decides as it does at binding
abbrev pub judging : RowFunction → Meaning Verdict Fault Tested
judging row =
    record {
      always = λ b. Ok (sure b);
      on = condition stands_or_beyond row;
      both = λ x y. Ok (conjoined x y);
      either = λ x y. Ok (disjoined x y);
      other = λ x. Ok (turned x);
    }
