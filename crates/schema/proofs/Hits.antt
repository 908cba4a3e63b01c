-- The fields that a lookup finds.
use Rattle.std.proofs.Common.{◌≡◌, ℕ, zero, suc, ◌+◌, ◌<◌, ◌≤◌, Bool, true, false, cond, List, [], ◌∷◌, ◌++◌, length, drop, Some, None, Option, Ok, Err, Result, sym, refl, ap, ◌∙◌, subst, ⊎_elim, add-one, add-zero, zero-add, arith}
use native.Mathlib.Nat.{sub-zero}
use denote.Param.Members.{Mut}
use denote.Ref.{Bor}
use Rattle.std.specs.Fn.{CalledAt}
use Rattle.std.specs.declared.ops.Range.{Range}
use Rattle.std.specs.declared.iter.Filter.{Filter}
use Rattle.std.specs.Iterator.Adapters.{filter_source, filter_callee, filter_steps}
use Rattle.std.specs.List.{filter, find, range_with_len}
use Rattle.std.specs.Option.{ok_or, option_map}
use Rattle.std.proofs.iter.Yields.{nat_range_steps}
use Rattle.std.proofs.lemmas.Iterator.{YieldsList, YieldsList-from_range}
use Rattle.std.proofs.lemmas.Iterator.Consumers.{YieldsList-from_filter, YieldsList-so_far, YieldsList-end}
use Rattle.std.proofs.lemmas.List.Elements.{filter-append}
use Rattle.std.proofs.lemmas.List.{append-nil, append_assoc, length-append, length_push, same_from_push, take-append-drop}
use Rattle.std.proofs.lemmas.Bool.{cases_Bool, both_ways, cases_lt}
use Rattle.values.specs.declared.refusals.Reason.{Reason}
use Rattle.values.specs.declared.refusals.Reason.TheVariants.{NameNotFound}
use Rattle.schema.specs.Lines.{tally}
use Rattle.schema.specs.Lookups.{hits, first_of}

pub hits_more : (p : ℕ → Bool) (n : ℕ) (xs : List ℕ) (b : Bool) → hits p n ≡ xs → b ≡ p n → hits p (n + 1) ≡ xs ++ cond b (n ∷ []) []
hits_more p n xs b e t = rw (add-one n, ← t, e) refl

-- the numbers below n, and one more
range_more : (n : ℕ) → range_with_len 0 (suc n) ≡ range_with_len 0 n ++ (n ∷ [])
range_more n = go 0 n ∙ ap (λ k. range_with_len 0 n ++ (k ∷ [])) (zero-add n)
  where
    go : (a m : ℕ) → range_with_len a (suc m) ≡ range_with_len a m ++ ((a + m) ∷ [])
    go a zero = rw (add-zero a) refl
    go a (suc m) =
        let same : a + 1 + m ≡ a + suc m = omega arith in
        ap (λ is. a ∷ is) (go (a + 1) m ∙ ap (λ k. range_with_len (a + 1) m ++ (k ∷ [])) same)

-- a filter of the numbers below n finds them
pub filter-hits : (p : ℕ → Bool) (n : ℕ) → filter p (range_with_len 0 n) ≡ hits p n
filter-hits p zero = refl
filter-hits p (suc n) = ap (filter p) (range_more n) ∙ filter-append p (range_with_len 0 n) (n ∷ []) ∙ ap (λ is. is ++ cond (p n) (n ∷ []) []) (filter-hits p n)

pub length-hits : (p : ℕ → Bool) (n : ℕ) → length (hits p n) ≡ tally p n
length-hits p zero = refl
length-hits p (suc n) = length-append (hits p n) (cond (p n) (n ∷ []) []) ∙ rw (length-hits p n) (go (p n))
  where
    go : (b : Bool) → tally p n + length (cond b (n ∷ []) []) ≡ tally p n + cond b 1 0
    go true = refl
    go false = refl

-- those of more numbers begin with those of fewer
hits-front : (p : ℕ → Bool) (m n : ℕ) → m ≤ n → (zs : List ℕ) × (hits p n ≡ hits p m ++ zs)
hits-front p m zero h = let same : m ≡ 0 = omega arith in ([], rw same refl)
hits-front p m (suc n) h =
    ⊎_elim
    (λ (l : m < suc n).
    let earlier = hits-front p m n (omega arith) in
    let here = cond (p n) (n ∷ []) [] in
    (earlier.0 ++ here, ap (λ xs. xs ++ here) earlier.1 ∙ append_assoc (hits p m) earlier.0 here))
    (λ (l : suc n ≤ m). let same : m ≡ suc n = omega arith in ([], rw same (sym (append-nil (hits p (suc n))))))
    (cases_lt m (suc n))

pub hits_none : (p : ℕ → Bool) (n j : ℕ) → hits p n ≡ [] → j < n → p j ≡ true → ⊥
hits_none p n j e h t =
    let all = hits-front p (j + 1) n (omega arith) in
    let here = hits_more p j (hits p j) true refl (sym t) in
    let size : length (hits p n) ≡ length (hits p j ++ (j ∷ [])) + length all.0 = ap length (all.1 ∙ ap (λ xs. xs ++ all.0) here) ∙ length-append (hits p j ++ (j ∷ [])) all.0 in
    let none : length (hits p n) ≡ 0 = ap length e in
    omega (arith, length_push (hits p j) j)

-- the one number that is found passes, and no other does
pub hits_one : (p : ℕ → Bool) (n k : ℕ) → hits p n ≡ (k ∷ []) → (k < n) × (p k ≡ true) × ((j : ℕ) → j < n → p j ≡ true → j ≡ k)
hits_one p zero k e = let size : ◌≡◌ {A = ℕ} 0 1 = ap length e in absurd (omega arith)
hits_one p (suc n) k e =
    ⊎_elim
    (λ (t : p n ≡ true).
    let last = same_from_push (hits p n) [] n k (ap (λ b. hits p n ++ cond b (n ∷ []) []) (sym t) ∙ e) in
    let same : n ≡ k = last.1 in
    (omega arith, ap p (sym same) ∙ t, λ j h u. ⊎_elim (λ (l : j < n). absurd (hits_none p n j last.0 l u)) (λ (l : n ≤ j). omega arith) (cases_lt j n)))
    (λ (f : p n ≡ false).
    let earlier = hits_one p n k (sym (append-nil (hits p n)) ∙ ap (λ b. hits p n ++ cond b (n ∷ []) []) (sym f) ∙ e) in
    let below : k < n = earlier.0 in
    (omega arith, earlier.1, λ j h u. ⊎_elim (λ (l : j < n). earlier.2 j l u) (λ (l : n ≤ j). let same : j ≡ n = omega arith in absurd (both_ways (p n) f (ap p (sym same) ∙ u))) (cases_lt j n)))
    (cases_Bool (p n))

-- a filter of the numbers below n gives those that pass
pub yields_hits : {F : Type 0} {s : Filter (Range ℕ) F} (g : Mut F (Bor ℕ × Unit {0}) Bool) (p : ℕ → Bool) (n : ℕ) {f : F} → filter_source s ≡ record { start = 0; end = n } → filter_callee s ≡ f → ((j : ℕ) (b : Bool) (q : F) → CalledAt g f j b q → (q ≡ f) × (b ≡ p j)) → YieldsList (filter_steps nat_range_steps g) (λ x. x) s (hits p n)
yields_hits {s = s} g p n e c calls = subst (YieldsList (filter_steps nat_range_steps g) (λ x. x) s) (filter-hits p n) (YieldsList-from_filter g p (YieldsList-from_range 0 n n e (sub-zero n)) c calls)

-- x passes, and is the first from a on that a filter of n numbers finds; xs are the rest
record First (p : ℕ → Bool) (a n x : ℕ) (xs : List ℕ) : Type 0 where
  least : a ≤ x
  below : x < a + n
  passes : p x ≡ true
  more : ℕ
  more-is : x + 1 + more ≡ a + n
  rest : filter p (range_with_len (x + 1) more) ≡ xs

first_of_filter : (p : ℕ → Bool) (a n x : ℕ) (xs : List ℕ) → filter p (range_with_len a n) ≡ (x ∷ xs) → First p a n x xs
first_of_filter p a zero x xs e = cc
first_of_filter p a (suc n) x xs e = go (p a) refl e (first_of_filter p (a + 1) n x xs)
  where
    go : (b : Bool) → p a ≡ b → cond b (a ∷ filter p (range_with_len (a + 1) n)) (filter p (range_with_len (a + 1) n)) ≡ (x ∷ xs) → (filter p (range_with_len (a + 1) n) ≡ (x ∷ xs) → First p (a + 1) n x xs) → First p a (suc n) x xs
    go true t f later =
        let here : a ≡ x = cc in
        let rest : filter p (range_with_len (a + 1) n) ≡ xs = cc in
        record { least = omega arith; below = omega arith; passes = ap p (sym here) ∙ t; more = n; more-is = omega arith; rest = ap (λ k. filter p (range_with_len (k + 1) n)) (sym here) ∙ rest }
    go false t f later =
        let l = later f in
        record { least = omega (arith, l.least); below = omega (arith, l.below); passes = l.passes; more = l.more; more-is = omega (arith, l.more-is); rest = l.rest }

pub first_hit : (p : ℕ → Bool) (n x : ℕ) (xs : List ℕ) → hits p n ≡ (x ∷ xs) → (x < n) × (p x ≡ true)
first_hit p n x xs e =
    let first = first_of_filter p 0 n x xs (filter-hits p n ∙ e) in
    (omega (arith, first.below), first.passes)

pub two_hits : (p : ℕ → Bool) (n x y : ℕ) (xs : List ℕ) → hits p n ≡ (x ∷ (y ∷ xs)) → (x < y) × (y < n) × (p x ≡ true) × (p y ≡ true)
two_hits p n x y xs e =
    let first = first_of_filter p 0 n x (y ∷ xs) (filter-hits p n ∙ e) in
    let second = first_of_filter p (x + 1) first.more y xs first.rest in
    (omega (arith, second.least), omega (arith, first.more-is, second.below), first.passes, second.passes)

-- `find` answers the first of them
pub found_first : (p : ℕ → Bool) (n : ℕ) (r : Option ℕ) → option_map (λ x. x) r ≡ find p (range_with_len 0 n) → ok_or r NameNotFound ≡ first_of (hits p n)
found_first p n r e = ap (λ o. ok_or o NameNotFound) (sym (same r) ∙ e) ∙ go (range_with_len 0 n) ∙ ap first_of (filter-hits p n)
  where
    same : (o : Option ℕ) → option_map (λ x. x) o ≡ o
    same None = refl
    same (Some x) = refl

    at_front : (i : ℕ) (is : List ℕ) (b : Bool) → ok_or (find p is) NameNotFound ≡ first_of (filter p is) → ok_or (cond b (Some i) (find p is)) NameNotFound ≡ first_of (cond b (i ∷ filter p is) (filter p is))
    at_front i is true e = refl
    at_front i is false e = e

    go : (is : List ℕ) → ok_or (find p is) NameNotFound ≡ first_of (filter p is)
    go [] = refl
    go (i ∷ is) = at_front i is (p i) (go is)

-- what the first two answers of that filter tell of those that pass
module _ {F : Type 0} {s : Filter (Range ℕ) F} (g : Mut F (Bor ℕ × Unit {0}) Bool) (p : ℕ → Bool) (n : ℕ) {f : F} where
  pub found_none : (t : Filter (Range ℕ) F) (r : Option ℕ) → r ≡ None → filter_steps nat_range_steps g s r t → filter_source s ≡ record { start = 0; end = n } → filter_callee s ≡ f → ((j : ℕ) (b : Bool) (q : F) → CalledAt g f j b q → (q ≡ f) × (b ≡ p j)) → hits p n ≡ []
  found_none t r e h source callee calls = sym (YieldsList-end (yields_hits g p n source callee calls) [] s refl r t e h).0

  pub found_one : (t u : Filter (Range ℕ) F) (q r : Option ℕ) (x : ℕ) → q ≡ Some x → filter_steps nat_range_steps g s q t → r ≡ None → filter_steps nat_range_steps g t r u → filter_source s ≡ record { start = 0; end = n } → filter_callee s ≡ f → ((j : ℕ) (b : Bool) (q : F) → CalledAt g f j b q → (q ≡ f) × (b ≡ p j)) → hits p n ≡ (x ∷ [])
  found_one t u q r x e h d k source callee calls =
      sym (YieldsList-end (yields_hits g p n source callee calls) (x ∷ []) t (t, subst (λ o. filter_steps nat_range_steps g s o t) e h, refl) r u d k).0

  pub found_two : (t u : Filter (Range ℕ) F) (q r : Option ℕ) (x y : ℕ) → q ≡ Some x → filter_steps nat_range_steps g s q t → r ≡ Some y → filter_steps nat_range_steps g t r u → filter_source s ≡ record { start = 0; end = n } → filter_callee s ≡ f → ((j : ℕ) (b : Bool) (q : F) → CalledAt g f j b q → (q ≡ f) × (b ≡ p j)) → hits p n ≡ (x ∷ (y ∷ drop 2 (hits p n)))
  found_two t u q r x y e h d k source callee calls =
      sym (take-append-drop 2 (hits p n))
      ∙ ap (λ is. is ++ drop 2 (hits p n))
      (sym (YieldsList-so_far (yields_hits g p n source callee calls) (x ∷ (y ∷ [])) u (t, subst (λ o. filter_steps nat_range_steps g s o t) e h, (u, subst (λ o. filter_steps nat_range_steps g t o u) d k, refl))))

-- what the filter's first answer is, once its refusal is named
pub was_some : (o : Option ℕ) (x : ℕ) (r : Result ℕ Reason) → r ≡ ok_or o NameNotFound → r ≡ Ok x → o ≡ Some x
was_some None x r e w = cc
was_some (Some y) x r e w = cc

pub was_none : (o : Option ℕ) (y : Reason) (r : Result ℕ Reason) → r ≡ ok_or o NameNotFound → r ≡ Err y → (o ≡ None) × (y ≡ NameNotFound)
was_none None y r e w = (refl, cc)
was_none (Some x) y r e w = cc
