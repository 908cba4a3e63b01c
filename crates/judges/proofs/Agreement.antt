-- A page says of each row what the three-valued visitor answers of it.
use Rattle.std.proofs.Common.{◌≡◌, ℕ, zero, suc, ◌+◌, ◌^◌, ◌<◌, ◌≤◌, min, max, ◌≢◌, true, false, List, [], ◌∷◌, length, length-take, take, get_or, Ok, Err, Result, refl, sym, ap, ◌∙◌, subst, arith}
use Rattle.std.proofs.lemmas.List.{get_or-take}
use Rattle.std.proofs.lemmas.Nat.Bits.{bit_at-zero, bit_at_and, bit_at_or, bit_at-pow_same, bit_at-pow_other, bit_at_ones}
use Rattle.std.specs.Int.{bit_at}
use Rattle.filters.specs.Trees.{Tree, constant, condition as leaf, And, Or, Not}
use Rattle.filters.specs.Meanings.{then, walked}
use Rattle.rows.specs.Reached.{RowFunction}
use Rattle.walk.specs.declared.faults.Fault.{Fault}
use Rattle.walk.specs.Tests.{Tested}
use Rattle.judges.specs.declared.page.Words.{Words}
use Rattle.judges.specs.declared.verdicts.Verdict.{Verdict}
use Rattle.judges.specs.declared.verdicts.Verdict.TheVariants.{True, False, Unknown}
use Rattle.judges.specs.Verdicts.{turned, both as conjoined, either as disjoined}
use Rattle.judges.specs.Answers.{stands_or_beyond}
use Rattle.judges.specs.Visitors.{condition, judging}
use Rattle.judges.specs.Pages.{no_row, every_yes, every_no, marked, marking, met, joined, swapped, paging}
use Rattle.judges.specs.Agreement.{yes_bit, no_bit, Says, AgreesWithEachRow}

abbrev answered : {A : Type 0} → A → Result A Fault
answered x = Ok x

ok_one : {A : Type 0} (x y : A) → answered x ≡ answered y → x ≡ y
ok_one x y h = cc

-- what an answered step was given
then_ok : {A B : Type 0} (r : Result A Fault) (k : A → Result B Fault) (y : B) → then r k ≡ Ok y → (x : A) × (r ≡ Ok x) × (k x ≡ Ok y)
then_ok (Ok x) k y h = (x, refl, h)
then_ok (Err e) k y h = absurd (cc)

-- ---- one bit of two words

yes_both : (v u : Verdict) → min (yes_bit v) (yes_bit u) ≡ yes_bit (conjoined v u)
yes_both True True = refl
yes_both True False = refl
yes_both True Unknown = refl
yes_both False True = refl
yes_both False False = refl
yes_both False Unknown = refl
yes_both Unknown True = refl
yes_both Unknown False = refl
yes_both Unknown Unknown = refl

no_both : (v u : Verdict) → max (no_bit v) (no_bit u) ≡ no_bit (conjoined v u)
no_both True True = refl
no_both True False = refl
no_both True Unknown = refl
no_both False True = refl
no_both False False = refl
no_both False Unknown = refl
no_both Unknown True = refl
no_both Unknown False = refl
no_both Unknown Unknown = refl

yes_either : (v u : Verdict) → max (yes_bit v) (yes_bit u) ≡ yes_bit (disjoined v u)
yes_either True True = refl
yes_either True False = refl
yes_either True Unknown = refl
yes_either False True = refl
yes_either False False = refl
yes_either False Unknown = refl
yes_either Unknown True = refl
yes_either Unknown False = refl
yes_either Unknown Unknown = refl

no_either : (v u : Verdict) → min (no_bit v) (no_bit u) ≡ no_bit (disjoined v u)
no_either True True = refl
no_either True False = refl
no_either True Unknown = refl
no_either False True = refl
no_either False False = refl
no_either False Unknown = refl
no_either Unknown True = refl
no_either Unknown False = refl
no_either Unknown Unknown = refl

says_met : (x y : Words) (n : ℕ) (v u : Verdict) → Says x n v → Says y n u → Says (met x y) n (conjoined v u)
says_met x y n v u p q = (
  bit_at_and x.yes y.yes n ∙ (λ i. min (p.0 i) (q.0 i)) ∙ yes_both v u,
  bit_at_or x.no y.no n ∙ (λ i. max (p.1 i) (q.1 i)) ∙ no_both v u,
)

says_joined : (x y : Words) (n : ℕ) (v u : Verdict) → Says x n v → Says y n u → Says (joined x y) n (disjoined v u)
says_joined x y n v u p q = (
  bit_at_or x.yes y.yes n ∙ (λ i. max (p.0 i) (q.0 i)) ∙ yes_either v u,
  bit_at_and x.no y.no n ∙ (λ i. min (p.1 i) (q.1 i)) ∙ no_either v u,
)

says_swapped : (x : Words) (n : ℕ) (v : Verdict) → Says x n v → Says (swapped x) n (turned v)
says_swapped x n True p = (p.1, p.0)
says_swapped x n False p = (p.1, p.0)
says_swapped x n Unknown p = (p.1, p.0)

-- ---- rows marked one after another

-- no bit is set from n on
abbrev Clear : ℕ → Words → Type 0
Clear n w = (i : ℕ) → n ≤ i → (bit_at w.yes i ≡ 0) × (bit_at w.no i ≡ 0)

-- the two agree at the bit
abbrev AsBefore : ℕ → Words → Words → Type 0
AsBefore i u w = (bit_at u.yes i ≡ bit_at w.yes i) × (bit_at u.no i ≡ bit_at w.no i)

no_more : (a b : ℕ) → b ≡ 0 → max a b ≡ a
no_more a b h = omega (arith, h)

both_zero : (a b : ℕ) → a ≡ 0 → b ≡ 0 → max a b ≡ 0
both_zero a b h k = omega (arith, h, k)

one_of_two : (a b : ℕ) → a ≡ 0 → b ≡ 1 → max a b ≡ 1
one_of_two a b h k = omega (arith, h, k)

above : (n i : ℕ) → suc n ≤ i → i ≢ n
above n i h e = omega (arith, h, e)

under : (n i : ℕ) → i < n → i ≢ n
under n i h e = omega (arith, h, e)

marked_clear : (n : ℕ) (v : Verdict) (w : Words) → Clear n w → Clear (suc n) (marked n v w)
marked_clear n True w c i h =
    let z = c i (omega (arith, h)) in (bit_at_or w.yes (2 ^ n) i ∙ both_zero (bit_at w.yes i) (bit_at (2 ^ n) i) z.0 (bit_at-pow_other n i (above n i h)), z.1)
marked_clear n False w c i h =
    let z = c i (omega (arith, h)) in (z.0, bit_at_or w.no (2 ^ n) i ∙ both_zero (bit_at w.no i) (bit_at (2 ^ n) i) z.1 (bit_at-pow_other n i (above n i h)))
marked_clear n Unknown w c i h = c i (omega (arith, h))

marked_says : (n : ℕ) (v : Verdict) (w : Words) → Clear n w → Says (marked n v w) n v
marked_says n True w c = let z = c n (omega arith) in (bit_at_or w.yes (2 ^ n) n ∙ one_of_two (bit_at w.yes n) (bit_at (2 ^ n) n) z.0 (bit_at-pow_same n), z.1)
marked_says n False w c = let z = c n (omega arith) in (z.0, bit_at_or w.no (2 ^ n) n ∙ one_of_two (bit_at w.no n) (bit_at (2 ^ n) n) z.1 (bit_at-pow_same n))
marked_says n Unknown w c = c n (omega arith)

marked_kept : (n : ℕ) (v : Verdict) (w : Words) (i : ℕ) → i < n → AsBefore i (marked n v w) w
marked_kept n True w i h = (bit_at_or w.yes (2 ^ n) i ∙ no_more (bit_at w.yes i) (bit_at (2 ^ n) i) (bit_at-pow_other n i (under n i h)), refl)
marked_kept n False w i h = (refl, bit_at_or w.no (2 ^ n) i ∙ no_more (bit_at w.no i) (bit_at (2 ^ n) i) (bit_at-pow_other n i (under n i h)))
marked_kept n Unknown w i h = (refl, refl)

module _ (f : RowFunction → Result Verdict Fault) where
  marking_kept : (n : ℕ) (rows : List RowFunction) (w u : Words) (i : ℕ) → marking f n rows w ≡ Ok u → i < n → AsBefore i u w
  marking_kept n [] w u i h l = let e = ok_one w u h in (ap (λ (x : Words). bit_at x.yes i) (sym e), ap (λ (x : Words). bit_at x.no i) (sym e))
  marking_kept n (row ∷ rows) w u i h l =
      let t = then_ok (f row) (λ v. marking f (suc n) rows (marked n v w)) u h in
      let k = marking_kept (suc n) rows (marked n t.0 w) u i t.2 (omega (arith, l)) in
      let m = marked_kept n t.0 w i l in (k.0 ∙ m.0, k.1 ∙ m.1)

  marking_says : (n : ℕ) (rows : List RowFunction) (w u : Words) → marking f n rows w ≡ Ok u → Clear n w
      → (k : ℕ) (row : RowFunction) → k < length rows → row ≡ get_or rows k row → (m : ℕ) → n + k ≡ m → (v : Verdict) × (f row ≡ Ok v) × Says u m v
  marking_says n [] w u h c k row l e m s = absurd (omega (arith, l))
  marking_says n (r ∷ rows) w u h c zero row l e m s =
      let t = then_ok (f r) (λ v. marking f (suc n) rows (marked n v w)) u h in
      let kept = marking_kept (suc n) rows (marked n t.0 w) u n t.2 (omega arith) in
      let said = marked_says n t.0 w c in
      let same : n ≡ m = omega (arith, s) in
      (t.0, ap f e ∙ t.1, subst (λ (j : ℕ). Says u j t.0) same (kept.0 ∙ said.0, kept.1 ∙ said.1))
  marking_says n (r ∷ rows) w u h c (suc k) row l e m s =
      let t = then_ok (f r) (λ v. marking f (suc n) rows (marked n v w)) u h in
      marking_says (suc n) rows (marked n t.0 w) u t.2 (marked_clear n t.0 w c) k row (omega (arith, l)) e m (omega (arith, s))

-- ---- filters

within : {X : Type 0} (m n : ℕ) (xs : List X) → n < m → n < length xs → n < length (take m xs)
within m n xs h l = grind (arith, length-take)

nothing_set : Clear 0 no_row
nothing_set i h = (bit_at-zero i, bit_at-zero i)

module _ (rows : List RowFunction) (n : ℕ) (row : RowFunction) (few : n < 64) (there : n < length rows) (is : row ≡ get_or rows n row) where
  abbrev Told : Tree Tested → Words → Type 0
  Told t w = (v : Verdict) × (walked (judging row) t ≡ Ok v) × Says w n v

  there_too : n < length (take 64 rows)
  there_too = within 64 n rows few there

  is_there : row ≡ get_or (take 64 rows) n row
  is_there = is ∙ sym (get_or-take 64 rows n row few)

  told : (t : Tree Tested) (w : Words) → walked (paging rows) t ≡ Ok w → Told t w
  told (constant true) w h = (True, refl, subst (λ (x : Words). Says x n True) (ok_one every_yes w h) (bit_at_ones 64 n few, bit_at-zero n))
  told (constant false) w h = (False, refl, subst (λ (x : Words). Says x n False) (ok_one every_no w h) (bit_at-zero n, bit_at_ones 64 n few))
  told (leaf c) w h = marking_says (λ r. condition stands_or_beyond r c) 0 (take 64 rows) no_row w h nothing_set n row there_too is_there n (omega arith)
  told (And l r) w h =
      let x = then_ok (walked (paging rows) l) (λ x. then (walked (paging rows) r) (λ y. Ok (met x y))) w h in
      let y = then_ok (walked (paging rows) r) (λ y. Ok (met x.0 y)) w x.2 in
      let p = told l x.0 x.1 in
      let q = told r y.0 y.1 in
      let left : walked (judging row) (And l r) ≡ then (walked (judging row) r) (λ u. Ok (conjoined p.0 u)) = ap (λ (a : Result Verdict Fault). then a (λ v. then (walked (judging row) r) (λ u. Ok (conjoined v u)))) p.1 in
      let right = ap (λ (a : Result Verdict Fault). then a (λ (u : Verdict). answered (conjoined p.0 u))) q.1 in
      (conjoined p.0 q.0, left ∙ right, subst (λ (z : Words). Says z n (conjoined p.0 q.0)) (ok_one (met x.0 y.0) w y.2) (says_met x.0 y.0 n p.0 q.0 p.2 q.2))
  told (Or l r) w h =
      let x = then_ok (walked (paging rows) l) (λ x. then (walked (paging rows) r) (λ y. Ok (joined x y))) w h in
      let y = then_ok (walked (paging rows) r) (λ y. Ok (joined x.0 y)) w x.2 in
      let p = told l x.0 x.1 in
      let q = told r y.0 y.1 in
      let left : walked (judging row) (Or l r) ≡ then (walked (judging row) r) (λ u. Ok (disjoined p.0 u)) = ap (λ (a : Result Verdict Fault). then a (λ v. then (walked (judging row) r) (λ u. Ok (disjoined v u)))) p.1 in
      let right = ap (λ (a : Result Verdict Fault). then a (λ (u : Verdict). answered (disjoined p.0 u))) q.1 in
      (disjoined p.0 q.0, left ∙ right, subst (λ (z : Words). Says z n (disjoined p.0 q.0)) (ok_one (joined x.0 y.0) w y.2) (says_joined x.0 y.0 n p.0 q.0 p.2 q.2))
  told (Not t) w h =
      let x = then_ok (walked (paging rows) t) (λ x. Ok (swapped x)) w h in
      let p = told t x.0 x.1 in
      (turned p.0, ap (λ (a : Result Verdict Fault). then a (λ (v : Verdict). answered (turned v))) p.1, subst (λ (z : Words). Says z n (turned p.0)) (ok_one (swapped x.0) w x.2) (says_swapped x.0 n p.0 p.2))

pub agrees_with_each_row : (rows : List RowFunction) → AgreesWithEachRow rows
agrees_with_each_row rows t w h n row few there is = told rows n row few there is t w h
