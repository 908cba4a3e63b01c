-- What the evaluator and the page visitor answer, in the three-valued visitor's words.
use Rattle.std.specs.Prelude.{◌≡◌, ℕ, ◌<◌, Bool, true, not, List, length, Ok, Err, Result, slice_index_or}
use Rattle.std.specs.Int.{bit_at}
use Rattle.std.specs.List.{list_all}
use Rattle.filters.specs.Trees.{Tree, NoNot, Each}
use Rattle.filters.specs.Meanings.{walked}
use Rattle.rows.specs.Reached.{RowFunction, is_extreme}
use Rattle.walk.specs.declared.faults.Fault.{Fault}
use Rattle.walk.specs.Tests.{Tested}
use Rattle.judges.specs.declared.page.Words.{Words}
use Rattle.judges.specs.declared.verdicts.Verdict.{Verdict}
use Rattle.judges.specs.declared.verdicts.Verdict.TheVariants.{True, False, Unknown}
use Rattle.judges.specs.Verdicts.{is_true}
use Rattle.judges.specs.Reading.{literals}
use Rattle.judges.specs.Visitors.{evaluating, judging}
use Rattle.judges.specs.Pages.{paging}

-- a condition with no extreme for a literal
abbrev pub Ordinary : Tested → Type 0
Ordinary c = list_all (λ l. not (is_extreme l.content)) (literals c) ≡ true

abbrev pub counted : Result Verdict Fault → Result Bool Fault
counted (Ok v) = Ok (is_true v)
counted (Err e) = Err e

-- of a filter with no Not and no extreme, the evaluator answers whether the three-valued visitor answers true, and faults as it does
abbrev pub CountsUnknownAsFalse : RowFunction → Type 0
CountsUnknownAsFalse row = (t : Tree Tested) → NoNot t → Each Ordinary t → walked (evaluating row) t ≡ counted (walked (judging row) t)

abbrev pub yes_bit : Verdict → ℕ
yes_bit True = 1
yes_bit False = 0
yes_bit Unknown = 0

abbrev pub no_bit : Verdict → ℕ
no_bit True = 0
no_bit False = 1
no_bit Unknown = 0

-- the words say the verdict at the bit n
abbrev pub Says : Words → ℕ → Verdict → Type 0
Says w n v = (bit_at w.yes n ≡ yes_bit v) × (bit_at w.no n ≡ no_bit v)

-- where a page answers, it says of each of its rows what the three-valued visitor answers of the row, whatever the filter
abbrev pub AgreesWithEachRow : List RowFunction → Type 0
AgreesWithEachRow rows =
    (t : Tree Tested) (w : Words) → walked (paging rows) t ≡ Ok w
    → (n : ℕ) (row : RowFunction) → n < 64 → n < length rows → row ≡ slice_index_or rows n row
    → (v : Verdict) × (walked (judging row) t ≡ Ok v) × Says w n v
