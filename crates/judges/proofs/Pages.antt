-- The page visitor is even-handed.
use Rattle.std.proofs.Common.{◌≡◌, ℕ, zero, suc, ◌+◌, ◌-◌, ◌^◌, ◌<◌, ◌≤◌, true, List, [], ◌∷◌, length, length-take, take, drop, map, get_or, Ok, Err, Result, nat_lt, bit_and, bit_or, refl, sym, ap, ◌∙◌, arith}
use Rattle.std.proofs.Math.Nat.{mod-eq_of_lt}
use Rattle.std.proofs.Math.Pow.{pow-lt}
use Rattle.std.proofs.lemmas.Bool.Decides.{nat_tests}
use Rattle.std.proofs.lemmas.Bool.{and_parts, and_from, lt-ltb}
use Rattle.std.proofs.lemmas.Nat.{or_lt, and_le_l, and_mask, and_comm, or_comm}
use Rattle.std.specs.Int.Bits.{or_add_and, and_zero_l, and_zero_r, or_zero_l, or_zero_r}
use Rattle.filters.specs.Meanings.{EvenHanded, then, Fine}
use Rattle.nodes.specs.Conditions.{opposite}
use Rattle.rows.specs.Reached.{RowFunction}
use Rattle.walk.specs.declared.faults.Fault.{Fault}
use Rattle.walk.specs.Tests.{Tested}
use Rattle.judges.specs.declared.verdicts.Verdict.{Verdict}
use Rattle.judges.specs.declared.verdicts.Verdict.TheVariants.{True, False, Unknown}
use Rattle.judges.specs.declared.page.Words.{Words}
use Rattle.judges.specs.Verdicts.{turned}
use Rattle.judges.specs.Answers.{stands_or_beyond}
use Rattle.judges.specs.Visitors.{condition}
use Rattle.judges.specs.Pages.{no_row, every_yes, every_no, marked, marking, met, joined, swapped, paging, are_words}
use Rattle.judges.proofs.EvenHanded.{turned_if, condition_opposite}

-- ---- words of so many bits

and_every : (k x : ℕ) → x < 2 ^ k → bit_and x (2 ^ k - 1) ≡ x
and_every k x h = and_mask x k ∙ mod-eq_of_lt h

every_and : (k x : ℕ) → x < 2 ^ k → bit_and (2 ^ k - 1) x ≡ x
every_and k x h = and_comm (2 ^ k - 1) x ∙ and_every k x h

every_or : (k x : ℕ) → x < 2 ^ k → bit_or (2 ^ k - 1) x ≡ 2 ^ k - 1
every_or k x h = let a = or_add_and (2 ^ k - 1) x in let b = every_and k x h in omega (arith, a, b)

or_every : (k x : ℕ) → x < 2 ^ k → bit_or x (2 ^ k - 1) ≡ 2 ^ k - 1
or_every k x h = or_comm x (2 ^ k - 1) ∙ every_or k x h

and_below : (k x y : ℕ) → x < 2 ^ k → bit_and x y < 2 ^ k
and_below k x y h = let a = and_le_l x y in omega (arith, a, h)

-- ---- pairs of words

below : (a b : ℕ) → nat_lt a b ≡ true → a < b
below a b h = grind (arith, nat_tests)

words : (x : Words) (a b : ℕ) → a ≡ x.yes → b ≡ x.no → record { yes = a; no = b } ≡ x
words x a b p q = λ i. record { yes = p i; no = q i }

are : (a b : ℕ) → a < 2 ^ 64 → b < 2 ^ 64 → are_words (record { yes = a; no = b }) ≡ true
are a b p q = and_from (nat_lt a (2 ^ 64)) (nat_lt b (2 ^ 64)) (lt-ltb a (2 ^ 64) p) (lt-ltb b (2 ^ 64) q)

yes_few : (x : Words) → are_words x ≡ true → x.yes < 2 ^ 64
yes_few x h = below x.yes (2 ^ 64) (and_parts (nat_lt x.yes (2 ^ 64)) (nat_lt x.no (2 ^ 64)) h).0

no_few : (x : Words) → are_words x ≡ true → x.no < 2 ^ 64
no_few x h = below x.no (2 ^ 64) (and_parts (nat_lt x.yes (2 ^ 64)) (nat_lt x.no (2 ^ 64)) h).1

-- ---- rows marked one after another

marked_words : (n : ℕ) (v : Verdict) (w : Words) → n < 64 → are_words w ≡ true → are_words (marked n v w) ≡ true
marked_words n True w h p = are _ _ (or_lt 64 w.yes (2 ^ n) (yes_few w p) (pow-lt h)) (no_few w p)
marked_words n False w h p = are _ _ (yes_few w p) (or_lt 64 w.no (2 ^ n) (no_few w p) (pow-lt h))
marked_words n Unknown w h p = p

marking_fine : (f : RowFunction → Result Verdict Fault) (n : ℕ) (rows : List RowFunction) (w : Words) → n + length rows ≤ 64 → are_words w ≡ true → Fine are_words (marking f n rows w)
marking_fine f n [] w h p = p
marking_fine f n (row ∷ rows) w h p = step (f row) (λ v. marking_fine f (suc n) rows (marked n v w) (omega (arith, h)) (marked_words n v w (omega (arith, h)) p))
  where
    step : (x : Result Verdict Fault) → ((v : Verdict) → Fine are_words (marking f (suc n) rows (marked n v w))) → Fine are_words (then x (λ v. marking f (suc n) rows (marked n v w)))
    step (Ok v) later = later v
    step (Err e) later = tt

abbrev swapped_if : Result Words Fault → Result Words Fault
swapped_if (Ok x) = Ok (swapped x)
swapped_if (Err e) = Err e

marked_opposite : (n : ℕ) (v : Verdict) (w : Words) → marked n (turned v) (swapped w) ≡ swapped (marked n v w)
marked_opposite n True w = refl
marked_opposite n False w = refl
marked_opposite n Unknown w = refl

marking_opposite : (f g : RowFunction → Result Verdict Fault) → ((row : RowFunction) → g row ≡ turned_if (f row)) → (n : ℕ) (rows : List RowFunction) (w : Words)
    → marking g n rows (swapped w) ≡ swapped_if (marking f n rows w)
marking_opposite f g e n [] w = refl
marking_opposite f g e n (row ∷ rows) w = ap (λ (x : Result Verdict Fault). then x (λ v. marking g (suc n) rows (marked n v (swapped w)))) (e row) ∙ step (f row) (λ u. marking_opposite f g e (suc n) rows u)
  where
    step : (x : Result Verdict Fault) → ((u : Words) → marking g (suc n) rows (swapped u) ≡ swapped_if (marking f (suc n) rows u)) → then (turned_if x) (λ v. marking g (suc n) rows (marked n v (swapped w))) ≡ swapped_if (then x (λ v. marking f (suc n) rows (marked n v w)))
    step (Ok v) later = ap (marking g (suc n) rows) (marked_opposite n v w) ∙ later (marked n v w)
    step (Err x) later = refl

on_opposite : (rows : List RowFunction) (c : Tested)
    → marking (λ row. condition stands_or_beyond row (opposite c)) 0 rows no_row ≡ swapped_if (marking (λ row. condition stands_or_beyond row c) 0 rows no_row)
on_opposite rows c = marking_opposite (λ row. condition stands_or_beyond row c) (λ row. condition stands_or_beyond row (opposite c)) (λ row. condition_opposite stands_or_beyond row c) 0 rows no_row

few : {X : Type 0} (n : ℕ) (xs : List X) → 0 + length (take n xs) ≤ n
few n xs = grind (arith, length-take)

-- ---- one row more

split : {X Y : Type 0} (f : X → Y) (xs : List X) (n : ℕ) (x : X) → n < length xs → x ≡ get_or xs n x → drop n (map f xs) ≡ f x ∷ drop (suc n) (map f xs)
split f [] n x h e = absurd (omega (arith, h))
split f (y ∷ ys) zero x h e = ap (λ z. f z ∷ map f ys) (sym e)
split f (y ∷ ys) (suc n) x h e = split f ys n x (omega (arith, h)) e

module _ {X : Type 0} (reach : X → RowFunction) (judge : RowFunction → Result Verdict Fault) (rows : List X) (n : ℕ) (x : X) (w : Words) where
  unrolled : n < length rows → x ≡ get_or rows n x → marking judge n (drop n (map reach rows)) w ≡ then (judge (reach x)) (λ v. marking judge (suc n) (drop (suc n) (map reach rows)) (marked n v w))
  unrolled h e = ap (λ (rs : List RowFunction). marking judge n rs w) (split reach rows n x h e)

  pub goes_on : (whole : Result Words Fault) (y : X) (v : Verdict) (u : Words) → n < length rows → x ≡ get_or rows n x → y ≡ x → marking judge n (drop n (map reach rows)) w ≡ whole
      → Ok v ≡ judge (reach y) → u ≡ marked n v w → marking judge (suc n) (drop (suc n) (map reach rows)) u ≡ whole
  goes_on whole y v u h e same before is set =
      let judged : judge (reach x) ≡ Ok v = sym (is ∙ ap (λ (z : X). judge (reach z)) same) in
      ap (marking judge (suc n) (drop (suc n) (map reach rows))) set
      ∙ sym (ap (λ (r : Result Verdict Fault). then r (λ v. marking judge (suc n) (drop (suc n) (map reach rows)) (marked n v w))) judged)
      ∙ sym (unrolled h e)
      ∙ before

  pub ends : (whole : Result Words Fault) (y : X) (f : Fault) → n < length rows → x ≡ get_or rows n x → y ≡ x → marking judge n (drop n (map reach rows)) w ≡ whole → Err f ≡ judge (reach y) → Err f ≡ whole
  ends whole y f h e same before is =
      let judged : judge (reach x) ≡ Err f = sym (is ∙ ap (λ (z : X). judge (reach z)) same) in
      sym (ap (λ (r : Result Verdict Fault). then r (λ v. marking judge (suc n) (drop (suc n) (map reach rows)) (marked n v w))) judged) ∙ sym (unrolled h e) ∙ before

-- ---- the visitor

pub pages_evenly : (rows : List RowFunction) → EvenHanded opposite (paging rows)
pages_evenly rows =
    record {
      valid = are_words;
      top = every_yes;
      bottom = every_no;
      meet = met;
      join = joined;
      turn = swapped;
      top_valid = refl;
      bottom_valid = refl;
      meet_valid = λ x y p q. are _ _ (and_below 64 x.yes y.yes (yes_few x p)) (or_lt 64 x.no y.no (no_few x p) (no_few y q));
      join_valid = λ x y p q. are _ _ (or_lt 64 x.yes y.yes (yes_few x p) (yes_few y q)) (and_below 64 x.no y.no (no_few x p));
      turn_valid = λ x p. are _ _ (no_few x p) (yes_few x p);
      on_valid = λ c. marking_fine (λ row. condition stands_or_beyond row c) 0 (take 64 rows) no_row (few 64 rows) refl;
      always_true = refl;
      always_false = refl;
      and_gives = λ x y p q. refl;
      or_gives = λ x y p q. refl;
      not_gives = λ x p. refl;
      turn_top = refl;
      turn_bottom = refl;
      turn_turn = λ x p. refl;
      turn_meet = λ x y p q. refl;
      turn_join = λ x y p q. refl;
      top_meet = λ x p. words x _ _ (every_and 64 x.yes (yes_few x p)) (or_zero_l x.no);
      meet_top = λ x p. words x _ _ (and_every 64 x.yes (yes_few x p)) (or_zero_r x.no);
      top_join = λ x p. words every_yes _ _ (every_or 64 x.yes (yes_few x p)) (and_zero_l x.no);
      join_top = λ x p. words every_yes _ _ (or_every 64 x.yes (yes_few x p)) (and_zero_r x.no);
      bottom_join = λ x p. words x _ _ (or_zero_l x.yes) (every_and 64 x.no (no_few x p));
      join_bottom = λ x p. words x _ _ (or_zero_r x.yes) (and_every 64 x.no (no_few x p));
      bottom_meet = λ x p. words every_no _ _ (and_zero_l x.yes) (every_or 64 x.no (no_few x p));
      meet_bottom = λ x p. words every_no _ _ (and_zero_r x.yes) (or_every 64 x.no (no_few x p));
      opposite_gives = λ c x h. on_opposite (take 64 rows) c ∙ ap swapped_if h;
      opposite_faults = λ c e h. (e, on_opposite (take 64 rows) c ∙ ap swapped_if h);
    }
