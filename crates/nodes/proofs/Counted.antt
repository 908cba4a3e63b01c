-- Counts of parents, as the code raises them.
use Rattle.std.proofs.Common.{◌≡◌, ℕ, zero, suc, ◌+◌, ◌*◌, ◌<◌, ◌≤◌, min, Bool, true, false, cond, eqb, ltb, List, length, get_or, take, set, replicate, sym, refl, ap, ◌∙◌, subst, arith, length-set, length-take, get_or-set_other, get_or-take, get_or-set_same, ltb-false, ltb-true, eqb-true}
use lib.ListN.{length-replicate, get_or-replicate, get_or-eq_default}
use borrow.Author.Tests.{eqb-false}
use Rattle.filters.specs.Placed.{Form, always, test, both, either, other}
use Rattle.nodes.specs.declared.slots.Mark.{Mark}
use Rattle.nodes.specs.declared.slots.Mark.TheVariants.{Standing, Joined, Struck}
use Rattle.nodes.specs.declared.slots.Slot.{Slot}
use Rattle.nodes.specs.Tables.{nowhere, at, form}
use Rattle.nodes.specs.Soundness.{bit, uses, claims_by, claims, parents}
use Rattle.nodes.specs.Counts.{bumped, raised, claimed_by, claimed}

bumped-length : (cs : List ℕ) (n : ℕ) → length (bumped cs n) ≡ length cs
bumped-length cs n = by (ltb n (length cs))
  where
    by : (b : Bool) → length (cond b (set cs n (get_or cs n 0 + 1)) cs) ≡ length cs
    by true = length-set cs n (get_or cs n 0 + 1)
    by false = refl

bumped-at : (cs : List ℕ) (n k : ℕ) → k < length cs → get_or (bumped cs n) k 0 ≡ get_or cs k 0 + bit (eqb n k)
bumped-at cs n k h = by (ltb n (length cs)) (eqb n k) refl refl
  where
    by : (b d : Bool) → ltb n (length cs) ≡ b → eqb n k ≡ d → get_or (cond b (set cs n (get_or cs n 0 + 1)) cs) k 0 ≡ get_or cs k 0 + bit d
    by true true e f = let z = eqb-true n k f in subst (λ j. get_or (set cs n (get_or cs n 0 + 1)) j 0 ≡ get_or cs j 0 + 1) z (get_or-set_same cs n (get_or cs n 0 + 1) 0 (ltb-true n (length cs) e))
    by true false e f = let z = eqb-false n k f in get_or-set_other cs n k (get_or cs n 0 + 1) 0 (λ y. z (sym y)) ∙ (let g : get_or cs k 0 ≡ get_or cs k 0 + 0 = omega arith in g)
    by false true e f = let z = eqb-true n k f in let y = ltb-false n (length cs) e in absurd (omega arith)
    by false false e f = let g : get_or cs k 0 ≡ get_or cs k 0 + 0 = omega arith in g

bit_small : (b : Bool) → bit b ≤ 1
bit_small true = omega arith
bit_small false = omega arith

module _ {X : Type 0} where
  raised_length : (x : Form X) (cs : List ℕ) → length (raised x cs) ≡ length cs
  raised_length (always b) cs = refl
  raised_length (test c) cs = refl
  raised_length (both l r) cs = bumped-length (bumped cs l) r ∙ bumped-length cs l
  raised_length (either l r) cs = bumped-length (bumped cs l) r ∙ bumped-length cs l
  raised_length (other i) cs = bumped-length cs i

  raised_at : (x : Form X) (cs : List ℕ) (k : ℕ) → k < length cs → get_or (raised x cs) k 0 ≡ get_or cs k 0 + uses x k
  raised_at (always b) cs k h = omega arith
  raised_at (test c) cs k h = omega arith
  raised_at (both l r) cs k h = let d = bumped-length cs l in let e = bumped-at cs l k h in let f = bumped-at (bumped cs l) r k (omega arith) in omega arith
  raised_at (either l r) cs k h = let d = bumped-length cs l in let e = bumped-at cs l k h in let f = bumped-at (bumped cs l) r k (omega arith) in omega arith
  raised_at (other i) cs k h = bumped-at cs i k h

  by_mark_length : (m : Mark) (x : Form X) (cs : List ℕ) → length (claimed_by m x cs) ≡ length cs
  by_mark_length Standing x cs = raised_length x cs
  by_mark_length Joined x cs = raised_length x cs
  by_mark_length Struck x cs = refl

  by_mark_at : (m : Mark) (x : Form X) (cs : List ℕ) (k : ℕ) → k < length cs → get_or (claimed_by m x cs) k 0 ≡ get_or cs k 0 + claims_by m x k
  by_mark_at Standing x cs k h = raised_at x cs k h
  by_mark_at Joined x cs k h = raised_at x cs k h
  by_mark_at Struck x cs k h = omega arith

  uses_few : (x : Form X) (k : ℕ) → uses x k ≤ 2
  uses_few (always b) k = omega arith
  uses_few (test c) k = omega arith
  uses_few (both l r) k = omega (arith, bit_small (eqb l k), bit_small (eqb r k))
  uses_few (either l r) k = omega (arith, bit_small (eqb l k), bit_small (eqb r k))
  uses_few (other i) k = omega (arith, bit_small (eqb i k))

  by_mark_few : (m : Mark) (x : Form X) (k : ℕ) → claims_by m x k ≤ 2
  by_mark_few Standing x k = uses_few x k
  by_mark_few Joined x k = uses_few x k
  by_mark_few Struck x k = omega arith

module _ {T : Type 0} where
  -- the counts so far
  pub record Counted (cs : List ℕ) (xs : List (Slot T)) (i : ℕ) : Type 0 where
    pub long : length cs ≡ 256
    pub count : (n : ℕ) → n < 256 → get_or cs n 0 ≡ parents xs i n

  parents_few : (xs : List (Slot T)) (i n : ℕ) → parents xs i n ≤ 2 * i
  parents_few xs zero n = omega arith
  parents_few xs (suc i) n = let e = parents_few xs i n in let f = by_mark_few (at xs i).mark (form (at xs i).node) n in omega arith

  pub counted_few : (cs : List ℕ) (xs : List (Slot T)) (i : ℕ) → Counted cs xs i → i < 256 → (k : ℕ) → get_or cs k 0 < 65534
  counted_few cs xs i c h k = by (ltb k 256) refl
    where
      by : (b : Bool) → ltb k 256 ≡ b → get_or cs k 0 < 65534
      by true e = let f = c.count k (ltb-true k 256 e) in let g = parents_few xs i k in omega arith
      by false e = let f = ltb-false k 256 e in let d = c.long in let g = get_or-eq_default cs 0 {n = k} (omega arith) in omega arith

  pub counted_more : (cs ds : List ℕ) (xs : List (Slot T)) (i : ℕ) (s : Slot T) → Counted cs xs i → at xs i ≡ s → ds ≡ claimed s cs → Counted ds xs (suc i)
  counted_more cs ds xs i s c es ed =
      let l = c.long in
      record {
        long = ap length ed ∙ by_mark_length s.mark (form s.node) cs ∙ l;
        count = λ n h.
            let a = ap (λ ys. get_or ys n 0) ed ∙ by_mark_at s.mark (form s.node) cs n (omega arith) in
            let b = c.count n h in
            let d : claims (at xs i) n ≡ claims s n = ap (λ (u : Slot T). claims u n) es in
            omega arith;
      }

  pub counted_none : (xs : List (Slot T)) → Counted (replicate {A = ℕ} 256 0) xs 0
  counted_none xs = record { long = length-replicate {A = ℕ} 256 0; count = λ n h. get_or-replicate {A = ℕ} 256 n 0 0 h }

  -- the same of the used part of a table
  parents_part : (c : ℕ) (xs : List (Slot T)) (k n : ℕ) → k ≤ c → parents (take c xs) k n ≡ parents xs k n
  parents_part c xs zero n h = refl
  parents_part c xs (suc k) n h =
      let e = parents_part c xs k n (omega arith) in
      let d : claims (at (take c xs) k) n ≡ claims (at xs k) n = ap (λ (s : Slot T). claims s n) (get_or-take c xs k nowhere (omega arith)) in
      omega arith

  pub part_count : (c : ℕ) (xs : List (Slot T)) (n v : ℕ) → c ≤ length xs → v ≡ parents (take c xs) (length (take c xs)) n → v ≡ parents xs c n
  part_count c xs n v h e = let l : length (take c xs) ≡ c = length-take c xs ∙ (let z : min c (length xs) ≡ c = omega arith in z) in e ∙ ap (λ k. parents (take c xs) k n) l ∙ parents_part c xs c n (omega arith)
