-- A page of rows judged at once: two words, with one bit for each row.
use Rattle.std.specs.Prelude.{ℕ, suc, ◌-◌, ◌^◌, Bool, cond, ◌&&◌, List, [], ◌∷◌, take, Ok, Result, nat_lt, bit_and, bit_or}
use Rattle.filters.specs.Meanings.{Meaning, then}
use Rattle.rows.specs.Reached.{RowFunction}
use Rattle.walk.specs.declared.faults.Fault.{Fault}
use Rattle.walk.specs.Tests.{Tested}
use Rattle.judges.specs.declared.verdicts.Verdict.{Verdict}
use Rattle.judges.specs.declared.verdicts.Verdict.TheVariants.{True, False, Unknown}
use Rattle.judges.specs.declared.page.Words.{Words}
use Rattle.judges.specs.Answers.{stands_or_beyond}
use Rattle.judges.specs.Visitors.{condition}

abbrev pub every : ℕ
every = 2 ^ 64 - 1

abbrev pub no_row : Words
no_row = record { yes = 0; no = 0 }

abbrev pub every_yes : Words
every_yes = record { yes = every; no = 0 }

abbrev pub every_no : Words
every_no = record { yes = 0; no = every }

-- the row's bit, if the verdict is known, in its word
abbrev pub marked : ℕ → Verdict → Words → Words
marked n True w = record { yes = bit_or w.yes (2 ^ n); no = w.no }
marked n False w = record { yes = w.yes; no = bit_or w.no (2 ^ n) }
marked n Unknown w = w

-- row after row, from the bit n on; the first fault ends it
abbrev pub marking : (RowFunction → Result Verdict Fault) → ℕ → List RowFunction → Words → Result Words Fault
marking judge n [] w = Ok w
marking judge n (row ∷ rows) w = then (judge row) (λ v. marking judge (suc n) rows (marked n v w))

-- And meets the yes words and joins the no words, Or the reverse
abbrev pub met : Words → Words → Words
met x y = record { yes = bit_and x.yes y.yes; no = bit_or x.no y.no }

abbrev pub joined : Words → Words → Words
joined x y = record { yes = bit_or x.yes y.yes; no = bit_and x.no y.no }

abbrev pub swapped : Words → Words
swapped w = record { yes = w.no; no = w.yes }

-- the page visitor: each row is judged as the three-valued visitor judges it
abbrev pub paging : List RowFunction → Meaning Words Fault Tested
paging rows =
    record {
      always = λ b. Ok (cond b every_yes every_no);
      on = λ c. marking (λ row. condition stands_or_beyond row c) 0 (take 64 rows) no_row;
      both = λ x y. Ok (met x y);
      either = λ x y. Ok (joined x y);
      other = λ x. Ok (swapped x);
    }

-- both numbers are words of 64 bits
abbrev pub are_words : Words → Bool
are_words w = nat_lt w.yes (2 ^ 64) && nat_lt w.no (2 ^ 64)
