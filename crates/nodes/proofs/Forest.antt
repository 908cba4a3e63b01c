-- A table that passes the check is a forest, and the reverse.
use Rattle.std.proofs.Common.{◌≡◌, ℕ, zero, suc, ◌+◌, ◌<◌, ◌≤◌, Bool, true, false, cond, ◌&&◌, eqb, ltb, ◌⊎◌, List, sym, refl, ap, ◌∙◌, subst, ap₂, inl, inr, arith, ltb-false, ltb-true, eq-eqb, ne_eqb, eqb-true}
use mathlib.Core.Option.{Option, some, none}
use borrow.Author.Tests.{eqb-false}
use Rattle.filters.specs.Runs.{Sheet}
use Rattle.filters.specs.Placed.{Form, always, test, both, either, other, Placed, constant_at, condition_at, and_node_at, or_node_at, not_node_at, root, In, Apart, Sound, Holds}
use Rattle.filters.proofs.Placed.{root_in, in_le}
use Rattle.nodes.specs.declared.slots.Mark.{Mark}
use Rattle.nodes.specs.declared.slots.Mark.TheVariants.{Standing as Stands, Joined, Struck}
use Rattle.nodes.specs.declared.slots.Slot.{Slot}
use Rattle.nodes.specs.Tables.{Held, at, nodes, filter_at}
use Rattle.nodes.specs.Filters.{Whole}
use Rattle.nodes.specs.Soundness.{bit, uses, claims_by, claims, parents, is_joined, is_standing, stands}
use Rattle.nodes.proofs.Found.{of_root, at_always, at_test, at_both, at_either, at_other}
use Rattle.nodes.proofs.Order.{Below, Ordered, both_true}
use Rattle.nodes.proofs.Lowest.{Sane}

-- the filters that stand: each by its root, whole in the table, below the next number, and no node in two
pub record Firm {X : Type 0} (at : ℕ → Form X) (used : ℕ) (f : Sheet (Placed X)) : Type 0 where
  pub rooted : (n : ℕ) (p : Placed X) → f n ≡ some p → root p ≡ n
  pub sound : (n : ℕ) (p : Placed X) → f n ≡ some p → Sound p
  pub held : (n : ℕ) (p : Placed X) → f n ≡ some p → Holds at p
  pub below : (n : ℕ) (p : Placed X) → f n ≡ some p → (k : ℕ) → In k p → k < used
  pub apart : (n m : ℕ) (p q : Placed X) → f n ≡ some p → f m ≡ some q → (n ≡ m → ⊥) → Apart p q

-- the filters that the marks show
abbrev pub sheet : {T : Type 0} → List (Slot T) → ℕ → Sheet (Placed (Held T))
sheet xs used n = cond (stands xs used n) (some (filter_at xs n)) none

abbrev pub Alive : Mark → Type 0
Alive Stands = Unit {0}
Alive Joined = Unit {0}
Alive Struck = ⊥

claims_alive : {X : Type 0} (m : Mark) (x : Form X) (n : ℕ) → Alive m → claims_by m x n ≡ uses x n
claims_alive Stands x n a = refl
claims_alive Joined x n a = refl
claims_alive Struck x n a = absurd a

claimed_alive : {X : Type 0} (m : Mark) (x : Form X) (n : ℕ) → 1 ≤ claims_by m x n → Alive m
claimed_alive Stands x n h = tt
claimed_alive Joined x n h = tt
claimed_alive Struck x n h = absurd (omega arith)

joined_if : (m : Mark) → 1 ≤ bit (is_joined m) → m ≡ Joined
joined_if Stands h = absurd (omega arith)
joined_if Joined h = refl
joined_if Struck h = absurd (omega arith)

pub joined_alive : (m : Mark) → m ≡ Joined → Alive m
joined_alive m e = subst Alive (sym e) tt

bit-one : (l n : ℕ) → l ≡ n → bit (eqb l n) ≡ 1
bit-one l n e = ap bit (eq-eqb l n e)

bit-zero : (l n : ℕ) → (l ≡ n → ⊥) → bit (eqb l n) ≡ 0
bit-zero l n e = ap bit (ne_eqb l n e)

bit-few : (m : Mark) → bit (is_joined m) ≤ 1
bit-few Stands = omega arith
bit-few Joined = omega arith
bit-few Struck = omega arith

pub decide : (l n : ℕ) → (l ≡ n) ⊎ (l ≡ n → ⊥)
decide l n = by (eqb l n) refl
  where
    by : (b : Bool) → eqb l n ≡ b → (l ≡ n) ⊎ (l ≡ n → ⊥)
    by true e = inl (eqb-true l n e)
    by false e = inr (eqb-false l n e)

module _ {T : Type 0} (xs : List (Slot T)) where
  one_claim : (k i n : ℕ) → i < k → claims (at xs i) n ≤ parents xs k n
  one_claim zero i n h = absurd (omega arith)
  one_claim (suc k) i n h = elim (decide i k) [
    | inl e ↦ let d : claims (at xs i) n ≡ claims (at xs k) n = ap (λ j. claims (at xs j) n) e in omega arith
    | inr e ↦ let d = one_claim k i n (omega (arith, e, h)) in omega arith
  ]

  two_claims : (k i j n : ℕ) → i < j → j < k → claims (at xs i) n + claims (at xs j) n ≤ parents xs k n
  two_claims zero i j n l h = absurd (omega arith)
  two_claims (suc k) i j n l h = elim (decide j k) [
    | inl e ↦ let d : claims (at xs j) n ≡ claims (at xs k) n = ap (λ j. claims (at xs j) n) e in let c = one_claim k i n (omega arith) in omega arith
    | inr e ↦ let d = two_claims k i j n l (omega (arith, e, h)) in omega arith
  ]

  a_claim : (k n : ℕ) → 1 ≤ parents xs k n → (i : ℕ) × (i < k) × (1 ≤ claims (at xs i) n)
  a_claim zero n h = absurd (omega arith)
  a_claim (suc k) n h = by (claims (at xs k) n) refl (λ l. a_claim k n l)
    where
      by : (c : ℕ) → claims (at xs k) n ≡ c → (1 ≤ parents xs k n → (i : ℕ) × (i < k) × (1 ≤ claims (at xs i) n)) → (i : ℕ) × (i < suc k) × (1 ≤ claims (at xs i) n)
      by zero e f = let r = f (omega arith) in (r.0, let l = r.1 in omega arith, r.2)
      by (suc c) e f = (k, omega arith, omega arith)

  no_claims : (k n : ℕ) → ((i : ℕ) → i < k → claims (at xs i) n ≡ 0) → parents xs k n ≡ 0
  no_claims zero n h = refl
  no_claims (suc k) n h = let e = no_claims k n (λ i l. h i (omega arith)) in let d = h k (omega arith) in omega arith

  just_one : (k i n : ℕ) → i < k → claims (at xs i) n ≡ 1 → ((j : ℕ) → j < k → (j ≡ i → ⊥) → claims (at xs j) n ≡ 0) → parents xs k n ≡ 1
  just_one zero i n h e f = absurd (omega arith)
  just_one (suc k) i n h e f = elim (decide i k) [
    | inl d ↦ let c : claims (at xs k) n ≡ 1 = ap (λ j. claims (at xs j) n) (sym d) ∙ e in let z = no_claims k n (λ j l. f j (omega arith) (λ g. omega arith)) in omega arith
    | inr d ↦ let c = just_one k i n (omega (arith, d, h)) e (λ j l. f j (omega arith)) in let z = f k (omega arith) (λ g. d (sym g)) in omega arith
  ]

  module _ (used : ℕ) (sane : Sane xs used) where
    -- a node that a live one has for an input is joined
    child : (i n : ℕ) → i < used → n < used → Alive (at xs i).mark → 1 ≤ uses (nodes xs i) n → (at xs n).mark ≡ Joined
    child i n hi hn a u =
        let c = claims_alive (at xs i).mark (nodes xs i) n a in
        let o = one_claim used i n hi in
        let e = sane.count n hn in
        joined_if (at xs n).mark (omega arith)

    -- and no other live one has it
    only : (i j n : ℕ) → i < used → j < used → n < used → Alive (at xs i).mark → Alive (at xs j).mark → 1 ≤ uses (nodes xs i) n → 1 ≤ uses (nodes xs j) n → i ≡ j
    only i j n hi hj hn a b u v =
        let c = claims_alive (at xs i).mark (nodes xs i) n a in
        let d = claims_alive (at xs j).mark (nodes xs j) n b in
        let e = sane.count n hn in
        let f = bit-few (at xs n).mark in
        elim (decide i j) [
          | inl z ↦ z
          | inr z ↦ by (ltb i j) refl z c d e f
        ]
      where
        by : (t : Bool) → ltb i j ≡ t → (i ≡ j → ⊥) → claims (at xs i) n ≡ uses (nodes xs i) n → claims (at xs j) n ≡ uses (nodes xs j) n → parents xs used n ≡ bit (is_joined (at xs n).mark) → bit (is_joined (at xs n).mark) ≤ 1 → i ≡ j
        by true t z c d e f = let o = two_claims used i j n (ltb-true i j t) hj in absurd (omega arith)
        by false t z c d e f = let l = ltb-false i j t in let o = two_claims used j i n (omega (arith, z, l)) hi in absurd (omega arith)

    -- the table holds every filter
    held_all : (b n : ℕ) → n < b → n < used → Holds (nodes xs) (filter_at xs n)
    held_all zero n h u = absurd (omega arith)
    held_all (suc b) n h u = by (nodes xs n) refl (sane.order n u) (λ m l. held_all b m (omega arith) (omega arith))
      where
        by : (x : Form (Held T)) → nodes xs n ≡ x → Below (nodes xs n) n → ((m : ℕ) → m < n → Holds (nodes xs) (filter_at xs m)) → Holds (nodes xs) (filter_at xs n)
        by (always c) e o f = subst (Holds (nodes xs)) (sym (at_always (nodes xs) n c e)) e
        by (test c) e o f = subst (Holds (nodes xs)) (sym (at_test (nodes xs) n c e)) e
        by (both l r) e o f = let q = subst (λ x. Below x n) e o in subst (Holds (nodes xs)) (sym (at_both (nodes xs) n l r e q.0 q.1)) (e ∙ ap₂ both (sym (of_root (nodes xs) l)) (sym (of_root (nodes xs) r)), f l q.0, f r q.1)
        by (either l r) e o f = let q = subst (λ x. Below x n) e o in subst (Holds (nodes xs)) (sym (at_either (nodes xs) n l r e q.0 q.1)) (e ∙ ap₂ either (sym (of_root (nodes xs) l)) (sym (of_root (nodes xs) r)), f l q.0, f r q.1)
        by (other i) e o f = let q = subst (λ x. Below x n) e o in subst (Holds (nodes xs)) (sym (at_other (nodes xs) n i e q)) (e ∙ ap other (sym (of_root (nodes xs) i)), f i q)

    -- a node of a live filter is its root, or has a parent in it
    pub record Up (k a : ℕ) : Type 0 where
      pub by : ℕ
      pub inn : In by (filter_at xs a)
      pub takes : 1 ≤ uses (nodes xs by) k
      pub over : k < by
      pub under : by ≤ a
      pub live : Alive (at xs by).mark

    lift : (k a b : ℕ) → a < b → ((m : ℕ) → In m (filter_at xs a) → In m (filter_at xs b)) → Up k a → Up k b
    lift k a b h f u = record { by = u.by; inn = f u.by u.inn; takes = u.takes; over = u.over; under = let l = u.under in omega arith; live = u.live }

    abbrev pub Reach : ℕ → ℕ → Type 0
    Reach k a = ((k ≡ a) ⊎ Up k a) × Alive (at xs k).mark × (k ≤ a)

    pub above : (b a k : ℕ) → a < b → a < used → Alive (at xs a).mark → In k (filter_at xs a) → Reach k a
    above zero a k h u l i = absurd (omega arith)
    above (suc b) a k h u l i = by (nodes xs a) refl (sane.order a u) (λ m g z. above b m k (omega arith) (omega arith) z)
      where
        top : k ≡ a → Reach k a
        top e = (inl e, subst (λ j. Alive (at xs j).mark) (sym e) l, omega arith)

        from : (m : ℕ) → m < a → 1 ≤ uses (nodes xs a) m → ((j : ℕ) → In j (filter_at xs m) → In j (filter_at xs a)) → In a (filter_at xs a) → Reach k m → Reach k a
        from m g v f r (inl e, x, y) = (inr (record { by = a; inn = r; takes = subst (λ j. 1 ≤ uses (nodes xs a) j) (sym e) v; over = omega arith; under = omega arith; live = l }), x, omega arith)
        from m g v f r (inr p, x, y) = (inr (lift k m a g f p), x, omega arith)

        by : (x : Form (Held T)) → nodes xs a ≡ x → Below (nodes xs a) a → ((m : ℕ) → m < a → Alive (at xs m).mark → In k (filter_at xs m) → Reach k m) → Reach k a
        by (always c) e o f = top (subst (In k) (at_always (nodes xs) a c e) i)
        by (test c) e o f = top (subst (In k) (at_test (nodes xs) a c e) i)
        by (both p q) e o f =
            let w = subst (λ x. Below x a) e o in
            let d = at_both (nodes xs) a p q e w.0 w.1 in
            let up : 1 ≤ uses (nodes xs a) p = subst (λ x. 1 ≤ uses x p) (sym e) (let z = bit-one p p refl in omega arith) in
            let uq : 1 ≤ uses (nodes xs a) q = subst (λ x. 1 ≤ uses x q) (sym e) (let z = bit-one q q refl in omega arith) in
            let self : In a (filter_at xs a) = subst (In a) (sym d) (inl refl) in
            elim (subst (In k) d i) [
              | inl z ↦ top z
              | inr (inl z) ↦ from p w.0 up (λ j y. subst (In j) (sym d) (inr (inl y))) self (f p w.0 (joined_alive _ (child a p u (omega (arith, w.0)) l up)) z)
              | inr (inr z) ↦ from q w.1 uq (λ j y. subst (In j) (sym d) (inr (inr y))) self (f q w.1 (joined_alive _ (child a q u (omega (arith, w.1)) l uq)) z)
            ]
        by (either p q) e o f =
            let w = subst (λ x. Below x a) e o in
            let d = at_either (nodes xs) a p q e w.0 w.1 in
            let up : 1 ≤ uses (nodes xs a) p = subst (λ x. 1 ≤ uses x p) (sym e) (let z = bit-one p p refl in omega arith) in
            let uq : 1 ≤ uses (nodes xs a) q = subst (λ x. 1 ≤ uses x q) (sym e) (let z = bit-one q q refl in omega arith) in
            let self : In a (filter_at xs a) = subst (In a) (sym d) (inl refl) in
            elim (subst (In k) d i) [
              | inl z ↦ top z
              | inr (inl z) ↦ from p w.0 up (λ j y. subst (In j) (sym d) (inr (inl y))) self (f p w.0 (joined_alive _ (child a p u (omega (arith, w.0)) l up)) z)
              | inr (inr z) ↦ from q w.1 uq (λ j y. subst (In j) (sym d) (inr (inr y))) self (f q w.1 (joined_alive _ (child a q u (omega (arith, w.1)) l uq)) z)
            ]
        by (other p) e o f =
            let w = subst (λ x. Below x a) e o in
            let d = at_other (nodes xs) a p e w in
            let up : 1 ≤ uses (nodes xs a) p = subst (λ x. 1 ≤ uses x p) (sym e) (let z = bit-one p p refl in omega arith) in
            let self : In a (filter_at xs a) = subst (In a) (sym d) (inl refl) in
            elim (subst (In k) d i) [
              | inl z ↦ top z
              | inr z ↦ from p w up (λ j y. subst (In j) (sym d) (inr y)) self (f p w (joined_alive _ (child a p u (omega (arith, w)) l up)) z)
            ]

    -- two live filters of which neither is under the other have no node in common
    apart_of : (a b : ℕ) → a < used → b < used → Alive (at xs a).mark → Alive (at xs b).mark → (a ≡ b → ⊥)
        → ((m : ℕ) → m ≤ b → Alive (at xs m).mark → 1 ≤ uses (nodes xs m) a → ⊥) → ((m : ℕ) → m ≤ a → Alive (at xs m).mark → 1 ≤ uses (nodes xs m) b → ⊥)
        → (d k : ℕ) → used ≤ k + d → In k (filter_at xs a) → In k (filter_at xs b) → ⊥
    apart_of a b ha hb la lb ne fa fb zero k h i j = let l = (above (suc a) a k (omega arith) ha la i).2 in omega arith
    apart_of a b ha hb la lb ne fa fb (suc d) k h i j =
        let p = above (suc a) a k (omega arith) ha la i in
        let q = above (suc b) b k (omega arith) hb lb j in
        both_ways p.0 q.0 (λ u v e. apart_of a b ha hb la lb ne fa fb d u.by (let o = u.over in omega arith) u.inn (subst (λ m. In m (filter_at xs b)) (sym e) v.inn))
      where
        both_ways : (k ≡ a) ⊎ Up k a → (k ≡ b) ⊎ Up k b → ((u : Up k a) (v : Up k b) → u.by ≡ v.by → ⊥) → ⊥
        both_ways (inl e) (inl f) r = ne (sym e ∙ f)
        both_ways (inl e) (inr v) r = fa v.by v.under v.live (subst (λ m. 1 ≤ uses (nodes xs v.by) m) e v.takes)
        both_ways (inr u) (inl f) r = fb u.by u.under u.live (subst (λ m. 1 ≤ uses (nodes xs u.by) m) f u.takes)
        both_ways (inr u) (inr v) r = r u v (only u.by v.by k (let z = u.under in omega arith) (let z = v.under in omega arith) (let z = u.under in let y = u.over in omega arith) u.live v.live u.takes v.takes)

    sound_all : (b a : ℕ) → a < b → a < used → Alive (at xs a).mark → Sound (filter_at xs a)
    sound_all zero a h u l = absurd (omega arith)
    sound_all (suc b) a h u l = by (nodes xs a) refl (sane.order a u) (λ m g z. sound_all b m (omega arith) (omega arith) z)
      where
        twice : (p q : ℕ) → (p < a) → (q < a) → ((m : ℕ) → uses (nodes xs a) m ≡ bit (eqb p m) + bit (eqb q m)) → ((m : ℕ) → m < a → Alive (at xs m).mark → Sound (filter_at xs m)) → Apart (filter_at xs p) (filter_at xs q) × Sound (filter_at xs p) × Sound (filter_at xs q)
        twice p q hp hq us f =
            let up : 1 ≤ uses (nodes xs a) p = let z = bit-one p p refl in let y = us p in omega arith in
            let uq : 1 ≤ uses (nodes xs a) q = let z = bit-one q q refl in let y = us q in omega arith in
            let lp = joined_alive _ (child a p u (omega arith) l up) in
            let lq = joined_alive _ (child a q u (omega arith) l uq) in
            let ne : p ≡ q → ⊥ = λ e.
            let x = bit-one p p refl in
            let y = bit-one q p (sym e) in
            let z = us p in
            let c = claims_alive (at xs a).mark (nodes xs a) p l in
            let o = one_claim used a p u in
            let n = sane.count p (omega arith) in
            let f = bit-few (at xs p).mark in omega arith in (
              λ k i j. apart_of p q (omega arith) (omega arith) lp lq ne
                  (λ m g z v. let e = only m a p (omega arith) u (omega arith) z l v up in omega arith)
                  (λ m g z v. let e = only m a q (omega arith) u (omega arith) z l v uq in omega arith) used k (omega arith) i j,
              f p hp lp,
              f q hq lq,
            )

        by : (x : Form (Held T)) → nodes xs a ≡ x → Below (nodes xs a) a → ((m : ℕ) → m < a → Alive (at xs m).mark → Sound (filter_at xs m)) → Sound (filter_at xs a)
        by (always c) e o f = subst Sound (sym (at_always (nodes xs) a c e)) tt
        by (test c) e o f = subst Sound (sym (at_test (nodes xs) a c e)) tt
        by (both p q) e o f =
            let w = subst (λ x. Below x a) e o in
            let t = twice p q w.0 w.1 (λ m. ap (λ x. uses x m) e) f in
            subst Sound (sym (at_both (nodes xs) a p q e w.0 w.1)) (subst (λ k. k < a) (sym (of_root (nodes xs) p)) w.0, subst (λ k. k < a) (sym (of_root (nodes xs) q)) w.1, t.0, t.1, t.2)
        by (either p q) e o f =
            let w = subst (λ x. Below x a) e o in
            let t = twice p q w.0 w.1 (λ m. ap (λ x. uses x m) e) f in
            subst Sound (sym (at_either (nodes xs) a p q e w.0 w.1)) (subst (λ k. k < a) (sym (of_root (nodes xs) p)) w.0, subst (λ k. k < a) (sym (of_root (nodes xs) q)) w.1, t.0, t.1, t.2)
        by (other p) e o f =
            let w = subst (λ x. Below x a) e o in
            let up : 1 ≤ uses (nodes xs a) p = subst (λ x. 1 ≤ uses x p) (sym e) (let z = bit-one p p refl in omega arith) in
            subst Sound (sym (at_other (nodes xs) a p e w)) (subst (λ k. k < a) (sym (of_root (nodes xs) p)) w, f p w (joined_alive _ (child a p u (omega arith) l up)))

    pub whole : (a : ℕ) → a < used → Alive (at xs a).mark → Whole xs a
    whole a h l = let f = sane.fits in record { inside = omega arith; held = held_all (suc a) a (omega arith) h; sound = sound_all (suc a) a (omega arith) h l }

    standing_alone : (a m : ℕ) → a < used → m < used → (at xs a).mark ≡ Stands → Alive (at xs m).mark → 1 ≤ uses (nodes xs m) a → ⊥
    standing_alone a m ha hm e l u = let d = child m a hm ha l u in let z : ◌≡◌ {A = ℕ} 0 1 = cc in omega arith

    pub apart_all : (a b : ℕ) → a < used → b < used → (at xs a).mark ≡ Stands → (at xs b).mark ≡ Stands → (a ≡ b → ⊥) → Apart (filter_at xs a) (filter_at xs b)
    apart_all a b ha hb ea eb ne k i j =
        apart_of a b ha hb (subst Alive (sym ea) tt) (subst Alive (sym eb) tt) ne
        (λ m g l u. standing_alone a m ha (omega arith) ea l u) (λ m g l u. standing_alone b m hb (omega arith) eb l u) used k (omega arith) i j

none_of : (c : ℕ) → (1 ≤ c → ⊥) → c ≡ 0
none_of zero h = refl
none_of (suc c) h = absurd (h (omega arith))

used-one : (l k : ℕ) → 1 ≤ bit (eqb l k) → l ≡ k
used-one l k h = elim (decide l k) [ inl e ↦ e | inr e ↦ let z = bit-zero l k e in absurd (omega arith) ]

used-two : (l r k : ℕ) → 1 ≤ bit (eqb l k) + bit (eqb r k) → (l ≡ k) ⊎ (r ≡ k)
used-two l r k h = elim (decide l k) [ inl e ↦ inl e | inr e ↦ let z = bit-zero l k e in inr (used-one r k (omega arith)) ]

module _ {X : Type 0} where
  use_below : (x : Form X) (j k : ℕ) → Below x j → 1 ≤ uses x k → k < j
  use_below (always b) j k o u = absurd (omega arith)
  use_below (test c) j k o u = absurd (omega arith)
  use_below (both l r) j k o u = elim (used-two l r k u) [ inl e ↦ let z = o.0 in omega arith | inr e ↦ let z = o.1 in omega arith ]
  use_below (either l r) j k o u = elim (used-two l r k u) [ inl e ↦ let z = o.0 in omega arith | inr e ↦ let z = o.1 in omega arith ]
  use_below (other i) j k o u = let e = used-one i k u in omega arith

  module _ (f : ℕ → Form X) where
    -- the inputs of a node of a filter are in it
    child_in : (p : Placed X) → Holds f p → (i k : ℕ) → In i p → 1 ≤ uses (f i) k → In k p
    child_in (constant_at n b) h i k e u = let z = ap (λ j. uses (f j) k) e ∙ ap (λ x. uses x k) h in absurd (omega arith)
    child_in (condition_at n c) h i k e u = let z = ap (λ j. uses (f j) k) e ∙ ap (λ x. uses x k) h in absurd (omega arith)
    child_in (and_node_at n l r) h i k (inl e) u =
        let z = ap (λ j. uses (f j) k) e ∙ ap (λ x. uses x k) h.0 in
        elim (used-two (root l) (root r) k (omega arith)) [ inl d ↦ inr (inl (subst (λ j. In j l) d (root_in l))) | inr d ↦ inr (inr (subst (λ j. In j r) d (root_in r))) ]
    child_in (and_node_at n l r) h i k (inr (inl j)) u = inr (inl (child_in l h.1 i k j u))
    child_in (and_node_at n l r) h i k (inr (inr j)) u = inr (inr (child_in r h.2 i k j u))
    child_in (or_node_at n l r) h i k (inl e) u =
        let z = ap (λ j. uses (f j) k) e ∙ ap (λ x. uses x k) h.0 in
        elim (used-two (root l) (root r) k (omega arith)) [ inl d ↦ inr (inl (subst (λ j. In j l) d (root_in l))) | inr d ↦ inr (inr (subst (λ j. In j r) d (root_in r))) ]
    child_in (or_node_at n l r) h i k (inr (inl j)) u = inr (inl (child_in l h.1 i k j u))
    child_in (or_node_at n l r) h i k (inr (inr j)) u = inr (inr (child_in r h.2 i k j u))
    child_in (not_node_at n p) h i k (inl e) u =
        let z = ap (λ j. uses (f j) k) e ∙ ap (λ x. uses x k) h.0 in
        inr (subst (λ j. In j p) (used-one (root p) k (omega arith)) (root_in p))
    child_in (not_node_at n p) h i k (inr j) u = inr (child_in p h.1 i k j u)

    -- one node of a filter has k for its input, once
    record Once (P : ℕ → Type 0) (k : ℕ) : Type 0 where
      by : ℕ
      inn : P by
      once : uses (f by) k ≡ 1
      rest : (j : ℕ) → P j → (j ≡ by → ⊥) → uses (f j) k ≡ 0

    half : (n : ℕ) (l r : Placed X) (P : ℕ → Type 0) (k : ℕ) → uses (f n) k ≡ bit (eqb (root l) k) + bit (eqb (root r) k) → Sound l → Apart l r → Holds f l → Holds f r
        → ((j : ℕ) → In j l → Below (f j) j) → ((j : ℕ) → P j → (j ≡ n) ⊎ (In j l ⊎ In j r)) → P n → ((j : ℕ) → In j l → P j)
        → In k l → ((k ≡ root l → ⊥) → Once (λ j. In j l) k) → Once P k
    half n l r P k u sl apart hl hr o out pn pl i rec =
        let zr : bit (eqb (root r) k) ≡ 0 = bit-zero (root r) k (λ e. apart k i (subst (λ j. In j r) e (root_in r))) in
        let far : (j : ℕ) → In j r → uses (f j) k ≡ 0 = λ j m. none_of (uses (f j) k) (λ v. apart k i (child_in r hr j k m v)) in
        elim (decide k (root l)) [
          | inl e ↦ record {
            by = n;
            inn = pn;
            once = let x = bit-one (root l) k (sym e) in omega arith;
            rest = λ j m ne. elim (out j m) [
              | inl d ↦ absurd (ne d)
              | inr (inl d) ↦ none_of (uses (f j) k) (λ v. let x = use_below (f j) j k (o j d) v in let y = in_le l sl j d in omega arith)
              | inr (inr d) ↦ far j d
            ];
          }
          | inr e ↦
              let t = rec e in
              record {
                by = t.by;
                inn = pl t.by t.inn;
                once = t.once;
                rest = λ j m ne. elim (out j m) [
                  | inl d ↦ let x = bit-zero (root l) k (λ g. e (sym g)) in ap (λ m. uses (f m) k) d ∙ (let g : uses (f n) k ≡ 0 = omega arith in g)
                  | inr (inl d) ↦ t.rest j d ne
                  | inr (inr d) ↦ far j d
                ];
              }
        ]

    swap_in : (n : ℕ) (l r : Placed X) (j : ℕ) → (j ≡ n) ⊎ (In j l ⊎ In j r) → (j ≡ n) ⊎ (In j r ⊎ In j l)
    swap_in n l r j (inl e) = inl e
    swap_in n l r j (inr (inl i)) = inr (inr i)
    swap_in n l r j (inr (inr i)) = inr (inl i)

    once_in : (p : Placed X) → Sound p → Holds f p → ((j : ℕ) → In j p → Below (f j) j) → (k : ℕ) → In k p → (k ≡ root p → ⊥) → Once (λ j. In j p) k
    once_in (constant_at n b) s h o k i ne = absurd (ne i)
    once_in (condition_at n c) s h o k i ne = absurd (ne i)
    once_in (and_node_at n l r) s h o k (inl e) ne = absurd (ne e)
    once_in (and_node_at n l r) s h o k (inr (inl i)) ne =
        half n l r (λ j. In j (and_node_at n l r)) k (ap (λ x. uses x k) h.0) s.3 s.2 h.1 h.2 (λ j m. o j (inr (inl m))) (λ j m. m) (inl refl) (λ j m. inr (inl m)) i
        (λ e. once_in l s.3 h.1 (λ j m. o j (inr (inl m))) k i e)
    once_in (and_node_at n l r) s h o k (inr (inr i)) ne =
        half n r l (λ j. In j (and_node_at n l r)) k (ap (λ x. uses x k) h.0 ∙ (let g : bit (eqb (root l) k) + bit (eqb (root r) k) ≡ bit (eqb (root r) k) + bit (eqb (root l) k) = omega arith in g)) s.4 (λ j a b. s.2 j b a) h.2 h.1 (λ j m. o j (inr (inr m))) (λ j m. swap_in n l r j m) (inl refl) (λ j m. inr (inr m)) i
        (λ e. once_in r s.4 h.2 (λ j m. o j (inr (inr m))) k i e)
    once_in (or_node_at n l r) s h o k (inl e) ne = absurd (ne e)
    once_in (or_node_at n l r) s h o k (inr (inl i)) ne =
        half n l r (λ j. In j (or_node_at n l r)) k (ap (λ x. uses x k) h.0) s.3 s.2 h.1 h.2 (λ j m. o j (inr (inl m))) (λ j m. m) (inl refl) (λ j m. inr (inl m)) i
        (λ e. once_in l s.3 h.1 (λ j m. o j (inr (inl m))) k i e)
    once_in (or_node_at n l r) s h o k (inr (inr i)) ne =
        half n r l (λ j. In j (or_node_at n l r)) k (ap (λ x. uses x k) h.0 ∙ (let g : bit (eqb (root l) k) + bit (eqb (root r) k) ≡ bit (eqb (root r) k) + bit (eqb (root l) k) = omega arith in g)) s.4 (λ j a b. s.2 j b a) h.2 h.1 (λ j m. o j (inr (inr m))) (λ j m. swap_in n l r j m) (inl refl) (λ j m. inr (inr m)) i
        (λ e. once_in r s.4 h.2 (λ j m. o j (inr (inr m))) k i e)
    once_in (not_node_at n p) s h o k (inl e) ne = absurd (ne e)
    once_in (not_node_at n p) s h o k (inr i) ne =
        elim (decide k (root p)) [
          | inl e ↦ record {
            by = n;
            inn = inl refl;
            once = let x = bit-one (root p) k (sym e) in ap (λ x. uses x k) h.0 ∙ x;
            rest = λ j m z. elim m [
              | inl d ↦ absurd (z d)
              | inr d ↦ none_of (uses (f j) k) (λ v. let x = use_below (f j) j k (o j (inr d)) v in let y = in_le p s.1 j d in omega arith)
            ];
          }
          | inr e ↦
              let t = once_in p s.1 h.1 (λ j m. o j (inr m)) k i e in
              record {
                by = t.by;
                inn = inr t.inn;
                once = t.once;
                rest = λ j m z. elim m [
                  | inl d ↦ ap (λ m. uses (f m) k) d ∙ ap (λ x. uses x k) h.0 ∙ bit-zero (root p) k (λ g. e (sym g))
                  | inr d ↦ t.rest j d z
                ];
              }
        ]

module _ {T : Type 0} (xs : List (Slot T)) (used : ℕ) where
  -- the filters that stand, with the marks of their nodes
  pub record Forest (f : Sheet (Placed (Held T))) : Type 0 where
    pub firm : Firm (nodes xs) used f
    pub top : (n : ℕ) (p : Placed (Held T)) → f n ≡ some p → (at xs n).mark ≡ Stands
    pub inner : (n : ℕ) (p : Placed (Held T)) → f n ≡ some p → (k : ℕ) → In k p → (k ≡ n → ⊥) → (at xs k).mark ≡ Joined
    pub cover : (k : ℕ) → k < used → Alive (at xs k).mark → (n : ℕ) × (p : Placed (Held T)) × (f n ≡ some p) × In k p

  some_same : {Y : Type 0} (x y : Y) (o : Option Y) → o ≡ some x → o ≡ some y → x ≡ y
  some_same x y o d e = cc

  -- a forest passes the check
  module _ (f : Sheet (Placed (Held T))) (g : Forest f) (o : Ordered xs used) where
    live_in : (n : ℕ) (p : Placed (Held T)) → f n ≡ some p → (k : ℕ) → In k p → Alive (at xs k).mark
    live_in n p e k i = elim (decide k n) [
      | inl d ↦ subst Alive (sym (ap (λ j. (at xs j).mark) d ∙ g.top n p e)) tt
      | inr d ↦ joined_alive _ (g.inner n p e k i d)
    ]

    -- who claims a node makes it joined
    claimed : (i k : ℕ) → i < used → 1 ≤ claims (at xs i) k → (at xs k).mark ≡ Joined
    claimed i k h c =
        let l = claimed_alive (at xs i).mark (nodes xs i) k c in
        let u = claims_alive (at xs i).mark (nodes xs i) k l in
        let v = g.cover i h l in
        let u' : 1 ≤ uses (nodes xs i) k = omega arith in
        let x = use_below (nodes xs i) i k (o i h) u' in
        let y = in_le v.1 (g.firm.sound v.0 v.1 v.2) i v.3 in
        let r = g.firm.rooted v.0 v.1 v.2 in
        g.inner v.0 v.1 v.2 k (child_in (nodes xs) v.1 (g.firm.held v.0 v.1 v.2) i k v.3 u') (λ e. omega arith)

    count_joined : (k : ℕ) → k < used → (at xs k).mark ≡ Joined → parents xs used k ≡ 1
    count_joined k h e =
        let v = g.cover k h (joined_alive _ e) in
        let n = v.0 in
        let p = v.1 in
        let held = g.firm.held n p v.2 in
        let ne : k ≡ root p → ⊥ = λ d. let m = ap (λ j. (at xs j).mark) (d ∙ g.firm.rooted n p v.2) ∙ g.top n p v.2 in let z : ◌≡◌ {A = ℕ} 0 1 = cc in omega arith in
        let t = once_in (nodes xs) p (g.firm.sound n p v.2) held (λ j i. o j (g.firm.below n p v.2 j i)) k v.3 ne in
        just_one xs used t.by k (g.firm.below n p v.2 t.by t.inn) (claims_alive (at xs t.by).mark (nodes xs t.by) k (live_in n p v.2 t.by t.inn) ∙ t.once)
        (λ j l d. none_of (claims (at xs j) k) (λ c.
        let lj = claimed_alive (at xs j).mark (nodes xs j) k c in
        let u = claims_alive (at xs j).mark (nodes xs j) k lj in
        let u' : 1 ≤ uses (nodes xs j) k = omega arith in
        let w = g.cover j l lj in
        let ink = child_in (nodes xs) w.1 (g.firm.held w.0 w.1 w.2) j k w.3 u' in
        elim (decide n w.0) [
          | inl q ↦
              let same : w.1 ≡ p = some_same w.1 p (f n) (ap f q ∙ w.2) v.2 in
              let z = t.rest j (subst (In j) same w.3) d in omega arith
          | inr q ↦ g.firm.apart n w.0 p w.1 v.2 w.2 q k v.3 ink
        ]))

    pub forest_count : (k : ℕ) → k < used → parents xs used k ≡ bit (is_joined (at xs k).mark)
    forest_count k h = by (at xs k).mark refl
      where
        clear : (m : Mark) → (at xs k).mark ≡ m → (m ≡ Joined → ⊥) → parents xs used k ≡ 0
        clear m e n = no_claims xs used k (λ i l. none_of (claims (at xs i) k) (λ c. n (sym e ∙ claimed i k l c)))

        by : (m : Mark) → (at xs k).mark ≡ m → parents xs used k ≡ bit (is_joined m)
        by Stands e = clear Stands e (λ d. let z : ◌≡◌ {A = ℕ} 0 1 = cc in omega arith)
        by Joined e = count_joined k h e
        by Struck e = clear Struck e (λ d. let z : ◌≡◌ {A = ℕ} 0 1 = cc in omega arith)

  -- what passes the check is a forest
  module _ (sane : Sane xs used) where
    standing_is : (m : Mark) → is_standing m ≡ true → m ≡ Stands
    standing_is Stands e = refl
    standing_is Joined e = let z : ◌≡◌ {A = ℕ} 0 1 = cc in absurd (omega arith)
    standing_is Struck e = let z : ◌≡◌ {A = ℕ} 0 1 = cc in absurd (omega arith)

    pub record At (n : ℕ) (p : Placed (Held T)) : Type 0 where
      pub is : filter_at xs n ≡ p
      pub low : n < used
      pub mark : (at xs n).mark ≡ Stands

    pub sheet_at : (n : ℕ) (p : Placed (Held T)) → sheet xs used n ≡ some p → At n p
    sheet_at n p e = by (stands xs used n) refl e
      where
        by : (b : Bool) → stands xs used n ≡ b → cond b (some (filter_at xs n)) none ≡ some p → At n p
        by true d e = let t = both_true (ltb n used) (is_standing (at xs n).mark) d in record { is = cc; low = ltb-true n used t.0; mark = standing_is (at xs n).mark t.1 }
        by false d e = let z : ◌≡◌ {A = ℕ} 0 1 = cc in absurd (omega arith)

    pub at_sheet : (n : ℕ) → n < used → (at xs n).mark ≡ Stands → sheet xs used n ≡ some (filter_at xs n)
    at_sheet n h e = ap (λ b. cond b (some (filter_at xs n)) none) (ap₂ ◌&&◌ (borrow.Author.Tests.lt-ltb n used h) (ap is_standing e))

    alive_at : (n : ℕ) → (at xs n).mark ≡ Stands → Alive (at xs n).mark
    alive_at n e = subst Alive (sym e) tt

    covered : (d k : ℕ) → used ≤ k + d → k < used → Alive (at xs k).mark → (n : ℕ) × (p : Placed (Held T)) × (sheet xs used n ≡ some p) × In k p
    covered zero k h l a = absurd (omega arith)
    covered (suc d) k h l a = by (at xs k).mark refl (λ i hi li oi. covered d i (omega arith) hi li)
      where
        by : (m : Mark) → (at xs k).mark ≡ m → ((i : ℕ) → i < used → Alive (at xs i).mark → k < i → (n : ℕ) × (p : Placed (Held T)) × (sheet xs used n ≡ some p) × In i p) → (n : ℕ) × (p : Placed (Held T)) × (sheet xs used n ≡ some p) × In k p
        by Stands e r = (k, filter_at xs k, at_sheet k l e, subst (λ j. In j (filter_at xs k)) (of_root (nodes xs) k) (root_in (filter_at xs k)))
        by Joined e r =
            let c : 1 ≤ parents xs used k = let x = sane.count k l ∙ ap (λ m. bit (is_joined m)) e in omega arith in
            let i = a_claim xs used k c in
            let lv = claimed_alive (at xs i.0).mark (nodes xs i.0) k i.2 in
            let u = claims_alive (at xs i.0).mark (nodes xs i.0) k lv in
            let w = i.2 in
            let u' : 1 ≤ uses (nodes xs i.0) k = omega arith in
            let v = r i.0 i.1 lv (use_below (nodes xs i.0) i.0 k (sane.order i.0 i.1) u') in
            let t = sheet_at v.0 v.1 v.2 in
            (v.0, v.1, v.2, child_in (nodes xs) v.1 (subst (Holds (nodes xs)) t.is (whole xs used sane v.0 t.low (alive_at v.0 t.mark)).held) i.0 k v.3 u')
        by Struck e r = absurd (subst Alive e a)

    pub forest : Forest (sheet xs used)
    forest = record {
      firm = record {
        rooted = λ n p e. let t = sheet_at n p e in sym (ap root t.is) ∙ of_root (nodes xs) n;
        sound = λ n p e. let t = sheet_at n p e in subst Sound t.is (whole xs used sane n t.low (alive_at n t.mark)).sound;
        held = λ n p e. let t = sheet_at n p e in subst (Holds (nodes xs)) t.is (whole xs used sane n t.low (alive_at n t.mark)).held;
        below = λ n p e k i. let t = sheet_at n p e in let r = above xs used sane (suc n) n k (omega arith) t.low (alive_at n t.mark) (subst (In k) (sym t.is) i) in let l = t.low in let m = r.2 in omega arith;
        apart = λ n m p q e d ne. let t = sheet_at n p e in let u = sheet_at m q d in λ k i j. apart_all xs used sane n m t.low u.low t.mark u.mark ne k (subst (In k) (sym t.is) i) (subst (In k) (sym u.is) j);
      };
      top = λ n p e. (sheet_at n p e).mark;
      inner = λ n p e k i ne.
          let t = sheet_at n p e in
          let r = above xs used sane (suc n) n k (omega arith) t.low (alive_at n t.mark) (subst (In k) (sym t.is) i) in
          let l = t.low in
          let m = r.2 in
          elim r.0 [ inl d ↦ absurd (ne d) | inr u ↦ child xs used sane u.by k (let x = u.under in omega arith) (omega arith) u.live u.takes ];
      cover = λ k h a. covered used k (omega arith) h a;
    }
