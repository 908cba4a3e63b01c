-- What each call keeps between a filter of the book and its wording holds after every run.
use Rattle.std.proofs.Common.{◌≡◌, ℕ, true, false, cond, eqb, List, [], ◌∷◌, refl, subst, arith}
use mathlib.Core.Option.{Option, some, none}
use Rattle.filters.specs.Trees.{Tree}
use Rattle.filters.specs.Runs.{Call, lay, call_and, call_or, call_not, call_negate, call_rewrite, call_bind, Sheet, enter, take_out, Hand, from_one, from_two, granted, step, Turn, after}

-- both sheets have nothing, or things that agree
abbrev pub Linked : {X Y : Type 0} → (X → Y → Type 0) → Option X → Option Y → Type 0
Linked G none none = Unit {0}
Linked G none (some y) = ⊥
Linked G (some x) none = ⊥
Linked G (some x) (some y) = G x y

-- two hands that keep G
pub record Keeps {C X Y : Type 0} (G : X → Y → Type 0) (h : Hand C X) (k : Hand C Y) : Type 0 where
  pub of_lay : (t : Tree C) → G (h.of_lay t) (k.of_lay t)
  pub of_and : (x x' : X) (y y' : Y) → G x y → G x' y' → G (h.of_and x x') (k.of_and y y')
  pub of_or : (x x' : X) (y y' : Y) → G x y → G x' y' → G (h.of_or x x') (k.of_or y y')
  pub of_not : (x : X) (y : Y) → G x y → G (h.of_not x) (k.of_not y)
  pub of_negate : (x : X) (y : Y) → G x y → G (h.of_negate x) (k.of_negate y)
  pub of_rewrite : (x : X) (y : Y) → G x y → G (h.of_rewrite x) (k.of_rewrite y)

module _ {C X Y : Type 0} (G : X → Y → Type 0) (h : Hand C X) (k : Hand C Y) (keeps : Keeps G h k) where
  abbrev All : Sheet X → Sheet Y → Type 0
  All s u = (j : ℕ) → Linked G (s j) (u j)

  entered : (n : ℕ) (x : X) (y : Y) (s : Sheet X) (u : Sheet Y) → G x y → All s u → All (enter n x s) (enter n y u)
  entered n x y s u g a j = elim (eqb n j) as (λ b. Linked G (cond b (some x) (s j)) (cond b (some y) (u j))) [ true ↦ g | false ↦ a j ]

  taken : (n : ℕ) (s : Sheet X) (u : Sheet Y) → All s u → All (take_out n s) (take_out n u)
  taken n s u a j = elim (eqb n j) as (λ b. Linked G (cond b none (s j)) (cond b none (u j))) [ true ↦ tt | false ↦ a j ]

  one_kept : (f : X → X) (g : Y → Y) → ((x : X) (y : Y) → G x y → G (f x) (g y)) → (a n : ℕ) (s : Sheet X) (u : Sheet Y) → All s u → (p : Option X) (q : Option Y) → Linked G p q → All (from_one f a n s p) (from_one g a n u q)
  one_kept f g kept a n s u all none none l = all
  one_kept f g kept a n s u all none (some y) l = absurd l
  one_kept f g kept a n s u all (some x) none l = absurd l
  one_kept f g kept a n s u all (some x) (some y) l = entered n (f x) (g y) (take_out a s) (take_out a u) (kept x y l) (taken a s u all)

  two_kept : (f : X → X → X) (g : Y → Y → Y) → ((x x' : X) (y y' : Y) → G x y → G x' y' → G (f x x') (g y y')) → (a b n : ℕ) (s : Sheet X) (u : Sheet Y) → All s u → (p p' : Option X) (q q' : Option Y) → Linked G p q → Linked G p' q' → All (from_two f a b n s p p') (from_two g a b n u q q')
  two_kept f g kept a b n s u all none p' none q' l l' = all
  two_kept f g kept a b n s u all none p' (some y) q' l l' = absurd l
  two_kept f g kept a b n s u all (some x) p' none q' l l' = absurd l
  two_kept f g kept a b n s u all (some x) none (some y) none l l' = all
  two_kept f g kept a b n s u all (some x) none (some y) (some y') l l' = absurd l'
  two_kept f g kept a b n s u all (some x) (some x') (some y) none l l' = absurd l'
  two_kept f g kept a b n s u all (some x) (some x') (some y) (some y') l l' =
      entered n (f x x') (g y y') (take_out a (take_out b s)) (take_out a (take_out b u)) (kept x x' y y' l l')
      (taken a (take_out b s) (take_out b u) (taken b s u all))

  call_kept : (c : Call C) (n : ℕ) (s : Sheet X) (u : Sheet Y) → All s u → All (granted h c n s) (granted k c n u)
  call_kept (lay t) n s u all = entered n (h.of_lay t) (k.of_lay t) s u (keeps.of_lay t) all
  call_kept (call_and a b) n s u all = two_kept h.of_and k.of_and keeps.of_and a b n s u all (s a) (s b) (u a) (u b) (all a) (all b)
  call_kept (call_or a b) n s u all = two_kept h.of_or k.of_or keeps.of_or a b n s u all (s a) (s b) (u a) (u b) (all a) (all b)
  call_kept (call_not a) n s u all = one_kept h.of_not k.of_not keeps.of_not a n s u all (s a) (u a) (all a)
  call_kept (call_negate a) n s u all = one_kept h.of_negate k.of_negate keeps.of_negate a n s u all (s a) (u a) (all a)
  call_kept (call_rewrite a) n s u all = one_kept h.of_rewrite k.of_rewrite keeps.of_rewrite a n s u all (s a) (u a) (all a)
  call_kept (call_bind a) n s u all = all

  step_kept : (c : Call C) (r : Option ℕ) (s : Sheet X) (u : Sheet Y) → All s u → All (step h c r s) (step k c r u)
  step_kept c (some n) s u all = call_kept c n s u all
  step_kept c none s u all = all

  pub linked : (run : List (Turn C)) → All (after h run) (after k run)
  linked [] j = tt
  linked (t ∷ ts) j = step_kept t.call t.answered (after h ts) (after k ts) (linked ts) j

  -- what agrees with an entry
  partner : (o : Option X) (q : Option Y) (y : Y) → Linked G o q → q ≡ some y → (x : X) × (o ≡ some x) × G x y
  partner none none y l e = let z : ◌≡◌ {A = ℕ} 0 1 = cc in absurd (omega arith)
  partner none (some y') y l e = absurd l
  partner (some x) none y l e = absurd l
  partner (some x) (some y') y l e = (x, refl, subst (G x) (let d : y' ≡ y = cc in d) l)

  pub standing : (run : List (Turn C)) (n : ℕ) (y : Y) → after k run n ≡ some y → (x : X) × (after h run n ≡ some x) × G x y
  standing run n y e = partner (after h run n) (after k run n) y (linked run n) e
