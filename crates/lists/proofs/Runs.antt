-- Runs of cells.
use Rattle.std.proofs.Common.{◌≡◌, ℕ, ◌+◌, ◌-◌, ◌<◌, ◌≤◌, min, List, [], ◌∷◌, ◌++◌, length, take, drop, set, sym, refl, ap, ◌∙◌, ⊎_elim, arith}
use Rattle.std.proofs.lemmas.List.{take_all, drop_all, length-drop, take_more_set, drop-set-add}
use Rattle.std.proofs.lemmas.Bool.{cases_lt}
use native.Mathlib.Nat.{sub-zero}
use Rattle.lists.specs.Keep.{run}

-- the run that is cut at the table's end
pub clipped : {X : Type 0} (items : List X) (start end s e : ℕ) → e ≡ min end (length items) → s ≡ min start e → run items s e ≡ run items start end
clipped items start end s e p q =
    ⊎_elim
    (λ (h : start < e).
    let a : s ≡ start = omega arith in
    let d : length (drop start items) ≡ length items - start = length-drop start items in
    rw a
    (⊎_elim
    (λ (k : end < length items). let b : e ≡ end = omega arith in rw b refl)
    (λ (k : length items ≤ end). take_all (e - start) (drop start items) (omega arith) ∙ sym (take_all (end - start) (drop start items) (omega arith)))
    (cases_lt end (length items))))
    (λ (h : e ≤ start).
    let a : e - s ≡ 0 = omega arith in
    rw a
    (⊎_elim
    (λ (k : start < length items). let b : end - start ≡ 0 = omega arith in rw b refl)
    (λ (k : length items ≤ start). rw (drop_all start items k) (sym (take_all (end - start) [] (omega arith))))
    (cases_lt start (length items))))
    (cases_lt start e)

-- one more element written after the run
pub run_push : {X : Type 0} (items : List X) (start end : ℕ) (x : X) → start ≤ end → end < length items → run (set items end x) start (end + 1) ≡ run items start end ++ (x ∷ [])
run_push items start end x h l =
    let k : ℕ = end - start in
    let e : end ≡ start + k = omega arith in
    let m : end + 1 - start ≡ k + 1 = omega arith in
    let d : length (drop start items) ≡ length items - start = length-drop start items in
    rw m (ap (λ n. take (k + 1) (drop start (set items n x))) e ∙ ap (take (k + 1)) (drop-set-add start items k x) ∙ take_more_set (drop start items) k x (omega arith))

-- a list that lies from the first cell on
pub from_zero : {X : Type 0} (items : List X) (end : ℕ) → run items 0 end ≡ take end items
from_zero items end = ap (λ n. take n items) (sub-zero end)
