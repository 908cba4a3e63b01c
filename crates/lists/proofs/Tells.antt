-- What an answer to an offer tells.
use Rattle.std.proofs.Common.{◌≡◌, ℕ, ◌<◌, ◌≤◌, Bool, true, false, cond, ◌&&◌, ltb, leb, List, [], length, refl, arith}
use Rattle.std.proofs.lemmas.Bool.{and_parts, leb-true, ltb-true}
use Rattle.std.proofs.lemmas.Bool.Decides.{nat_tests}
use Rattle.lists.specs.declared.list.Offered.{Offered}
use Rattle.lists.specs.declared.list.Offered.TheVariants.{Kept, Dropped, Full}
use Rattle.lists.specs.Keep.{against, run, offered, stored, end_after, held_after}
use Rattle.lists.specs.Laws.{Distinct}
use Rattle.lists.proofs.Firsts.{own_passes, distinct_push}
use Rattle.lists.proofs.Runs.{run_push}

is_dropped : (a b : Bool) → Dropped ≡ cond a Dropped (cond b Kept Full) → a ≡ true
is_dropped true b e = refl
is_dropped false true e = cc
is_dropped false false e = cc

is_kept : (a b : Bool) → Kept ≡ cond a Dropped (cond b Kept Full) → (a ≡ false) × (b ≡ true)
is_kept true b e = cc
is_kept false true e = (refl, refl)
is_kept false false e = cc

is_full : (a b : Bool) → Full ≡ cond a Dropped (cond b Kept Full) → (a ≡ false) × (b ≡ false)
is_full true b e = cc
is_full false true e = cc
is_full false false e = (refl, refl)

pub was_dropped : {X : Type 0} (p : X → X → Bool) (items : List X) (start end : ℕ) (x : X) → Dropped ≡ offered p items start end x → against p (run items start end) x ≡ true
was_dropped p items start end x e = is_dropped (against p (run items start end) x) (leb start end && ltb end (length items)) e

pub was_kept : {X : Type 0} (p : X → X → Bool) (items : List X) (start end : ℕ) (x : X) → Kept ≡ offered p items start end x → (against p (run items start end) x ≡ false) × (start ≤ end) × (end < length items)
was_kept p items start end x e =
    let tests = is_kept (against p (run items start end) x) (leb start end && ltb end (length items)) e in
    let both = and_parts (leb start end) (ltb end (length items)) tests.1 in
    (tests.0, leb-true start end both.0, ltb-true end (length items) both.1)

pub was_full : {X : Type 0} (p : X → X → Bool) (items : List X) (start end : ℕ) (x : X) → Full ≡ offered p items start end x → (against p (run items start end) x ≡ false) × (start ≤ end → length items ≤ end)
was_full p items start end x e =
    let tests = is_full (against p (run items start end) x) (leb start end && ltb end (length items)) e in
    let none = tests.1 in
    (tests.0, λ h. grind (arith, nat_tests))

-- what the list holds after an offer, and what then holds of it
pub record Held {X : Type 0} (p : X → X → Bool) (held after : List X) (x : X) (r : Offered) : Type 0 where
  pub holds : after ≡ held_after r held x
  pub covered : (r ≡ Full → ⊥) → against p after x ≡ true
  pub distinct : Distinct p held → Distinct p after

pub held : {X : Type 0} (p : X → X → Bool) (reflexive : (x : X) → p x x ≡ true) (items : List X) (start end : ℕ) (x : X) (r : Offered) → r ≡ offered p items start end x → Held p (run items start end) (run (stored r items end x) start (end_after r end)) x r
held p reflexive items start end x Kept e =
    let was = was_kept p items start end x e in
    let after = run_push items start end x was.1 was.2 in
    record { holds = after; covered = λ _. rw after (own_passes p reflexive (run items start end) [] x); distinct = λ d. rw after (distinct_push p (run items start end) x d was.0) }
held p reflexive items start end x Dropped e =
    record { holds = refl; covered = λ _. was_dropped p items start end x e; distinct = λ d. d }
held p reflexive items start end x Full e =
    record { holds = refl; covered = λ f. absurd (f refl); distinct = λ d. d }
