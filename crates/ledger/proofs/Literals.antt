-- Literals that are stored behind others: what was there is read as before, and the new ones fit.
use Rattle.std.proofs.Common.{◌≡◌, ℕ, ◌+◌, ◌-◌, ◌<◌, ◌≤◌, min, Bool, true, false, cond, ◌&&◌, leb, List, [], ◌∷◌, ◌++◌, map, length, get_or, take, drop, Some, None, sym, refl, ap, ◌∙◌, arith, length-append, length-drop, length-take, get_or-take, take-take, le-leb, leb-true}
use lib.ListN.{get_or-append}
use lib.Seq.{take-append_seam, drop-append_seam, take-append-le, drop-append-le, get_or-append_seam}
use Rattle.std.specs.List.{list_all}
use Rattle.std.proofs.lemmas.List.{drop-take}
use Rattle.std.proofs.lemmas.Bool.{and_parts, and_from}
use Rattle.values.specs.declared.literals.Literal.{Literal}
use Rattle.values.specs.Contents.{text_inside, datum_of}
use Rattle.values.specs.Admission.{first_failing}
use Rattle.lists.specs.Keep.{against, fresh, placed}
use Rattle.nodes.specs.Conditions.{unary, binary, among}
use Rattle.nodes.specs.Operators.{is_unary, is_binary, is_set}
use Rattle.nodes.specs.Tables.{Held}
use Rattle.nodes.specs.Soundness.{literals_in, fits, literal_room, used_of}
use Rattle.nodes.proofs.Order.{Fair}
use Rattle.ledger.specs.Law.{nothing, content}
use Rattle.ledger.proofs.Families.{unary_turned, binary_turned, set_turned}

module _ {X : Type 0} where
  -- a run of the first k
  run_part : (xs : List X) (k s c : ℕ) → s + c ≤ k → take c (drop s (take k xs)) ≡ take c (drop s xs)
  run_part xs k s c h =
      let e : k ≡ s + (k - s) = omega arith in
      ap (λ j. take c (drop s (take j xs))) e ∙ ap (take c) (drop-take s (k - s) xs) ∙ take-take c (k - s) (drop s xs) (omega arith)

  long : (xs : List X) (k : ℕ) → k ≤ length xs → length (take k xs) ≡ k
  long xs k h = length-take k xs ∙ (let z : min k (length xs) ≡ k = omega arith in z)

  -- and whatever is written behind them
  run_kept : (xs new : List X) (k s c : ℕ) → s + c ≤ k → k ≤ length xs → take c (drop s (placed xs k new)) ≡ take c (drop s xs)
  run_kept xs new k s c h i =
      let a = take k xs in
      let l = long xs k i in
      let d = length-drop s a in
      ap (take c) (drop-append-le s a (new ++ drop (k + length new) xs) (omega arith)) ∙ take-append-le c (drop s a) (new ++ drop (k + length new) xs) (omega arith) ∙ run_part xs k s c h

  run_new : (xs new : List X) (k : ℕ) → k ≤ length xs → take (length new) (drop k (placed xs k new)) ≡ new
  run_new xs new k i =
      let a = take k xs in
      let r = new ++ drop (k + length new) xs in
      ap (λ j. take (length new) (drop j (a ++ r))) (sym (long xs k i)) ∙ ap (take (length new)) (drop-append_seam a r) ∙ take-append_seam new (drop (k + length new) xs)

  pub placed_length : (xs new : List X) (k : ℕ) → k + length new ≤ length xs → length (placed xs k new) ≡ length xs
  placed_length xs new k h =
      let a = take k xs in
      let d = drop (k + length new) xs in
      let x = length-append a (new ++ d) in
      let y = length-append new d in
      let z = long xs k (omega arith) in
      let w = length-drop (k + length new) xs in
      omega arith

  one_kept : (xs new : List X) (k i : ℕ) (d : X) → i < k → k ≤ length xs → get_or (placed xs k new) i d ≡ get_or xs i d
  one_kept xs new k i d h l = let z = long xs k l in get_or-append (take k xs) (new ++ drop (k + length new) xs) d i (omega arith) ∙ get_or-take k xs i d h

  one_new : (xs : List X) (x : X) (k : ℕ) (d : X) → k ≤ length xs → get_or (placed xs k (x ∷ [])) k d ≡ x
  one_new xs x k d l = ap (λ j. get_or (placed xs k (x ∷ [])) j d) (sym (long xs k l)) ∙ get_or-append_seam (take k xs) x (drop (k + 1) xs) d

  fresh_every : (p : X → Bool) (q : X → X → Bool) (ks xs : List X) → list_all p xs ≡ true → list_all p (fresh q ks xs) ≡ true
  fresh_every p q ks [] e = refl
  fresh_every p q ks (x ∷ xs) e =
      let h = and_parts (p x) (list_all p xs) e in
      let f = fresh_every p q ks xs h.1 in
      let g = and_from (p x) (list_all p (fresh q (ks ++ (x ∷ [])) xs)) h.0 (fresh_every p q (ks ++ (x ∷ [])) xs h.1) in
      elim (against q ks x) as (λ b. list_all p (cond b (fresh q ks xs) (x ∷ fresh q (ks ++ (x ∷ [])) xs)) ≡ true) [ true ↦ f | false ↦ g ]

  pub kept_every : (p : X → Bool) (q : X → X → Bool) (xs : List X) → list_all p xs ≡ true → list_all p (fresh q [] xs) ≡ true
  kept_every p q xs e = fresh_every p q [] xs e

pub none_fails : {X : Type 0} (p : X → Bool) (xs : List X) (i : ℕ) → first_failing p i xs ≡ None → list_all p xs ≡ true
none_fails p [] i e = refl
none_fails p (x ∷ xs) i e = by (p x) refl e (λ h. none_fails p xs (i + 1) h)
  where
    by : (b : Bool) → p x ≡ b → cond b (first_failing p (i + 1) xs) (Some i) ≡ None → (first_failing p (i + 1) xs ≡ None → list_all p xs ≡ true) → p x && list_all p xs ≡ true
    by true d e f = and_from (p x) (list_all p xs) d (f e)
    by false d e f = let z : ◌≡◌ {A = ℕ} 0 1 = cc in absurd (omega arith)

pub used_is : (ls : List Literal) (k : ℕ) → k ≤ literal_room ls → used_of ls k ≡ take k ls
used_is ls k h = ap (λ j. take j ls) (let z : min k (literal_room ls) ≡ k = omega arith in z)

module _ {T : Type 0} (within : T → Bool) (text : ℕ) where
  pub fair : (ls : List Literal) → Fair (fits within text ls)
  fair ls (unary o t) h = let p = and_parts (is_unary o) (within t) h in and_from _ _ (unary_turned o p.0) p.1
  fair ls (binary o t i) h = let p = and_parts (is_binary o) (within t && literals_in text ls i 1) h in and_from _ _ (binary_turned o p.0) p.1
  fair ls (among o t r) h = let p = and_parts (is_set o) (within t && literals_in text ls r.start r.count) h in and_from _ _ (set_turned o p.0) p.1

module _ {T : Type 0} (within : T → Bool) (text : List ℕ) (ls new : List Literal) (k : ℕ) (low : k ≤ length ls) (room : k + length new ≤ length ls) where
  abbrev p : Literal → Bool
  p l = text_inside (length text) l.value

  abbrev ls' : List Literal
  ls' = placed ls k new

  abbrev k' : ℕ
  k' = k + length new

  long' : length (take k' ls') ≡ k'
  long' = long ls' k' (let z = placed_length ls new k room in omega arith)

  same_run : (s c : ℕ) → s + c ≤ k → take c (drop s (take k' ls')) ≡ take c (drop s (take k ls))
  same_run s c h = run_part ls' k' s c (omega arith) ∙ run_kept ls new k s c h low ∙ sym (run_part ls k s c h)

  below : (s c : ℕ) → literals_in (length text) (take k ls) s c ≡ true → s + c ≤ k
  below s c e = let q = and_parts (leb (s + c) (length (take k ls))) (list_all p (take c (drop s (take k ls)))) e in let l = leb-true (s + c) (length (take k ls)) q.0 in let z = long ls k low in omega arith

  in_more : (s c : ℕ) → literals_in (length text) (take k ls) s c ≡ true → literals_in (length text) (take k' ls') s c ≡ true
  in_more s c e =
      let q = and_parts (leb (s + c) (length (take k ls))) (list_all p (take c (drop s (take k ls)))) e in
      let h = below s c e in
      let z = long' in
      and_from _ _ (le-leb (s + c) (length (take k' ls')) (omega arith)) (ap (list_all p) (same_run s c h) ∙ q.1)

  pub fits_more : (c : Held T) → fits within (length text) (take k ls) c ≡ true → fits within (length text) (take k' ls') c ≡ true
  fits_more (unary o t) h = h
  fits_more (binary o t i) h =
      let a = and_parts (is_binary o) (within t && literals_in (length text) (take k ls) i 1) h in
      let b = and_parts (within t) (literals_in (length text) (take k ls) i 1) a.1 in
      and_from _ _ a.0 (and_from _ _ b.0 (in_more i 1 b.1))
  fits_more (among o t r) h =
      let a = and_parts (is_set o) (within t && literals_in (length text) (take k ls) r.start r.count) h in
      let b = and_parts (within t) (literals_in (length text) (take k ls) r.start r.count) a.1 in
      and_from _ _ a.0 (and_from _ _ b.0 (in_more r.start r.count b.1))

  pub content_more : (c : Held T) → fits within (length text) (take k ls) c ≡ true → content text ls c ≡ content text ls' c
  content_more (unary o t) h = refl
  content_more (binary o t i) h =
      let a = and_parts (is_binary o) (within t && literals_in (length text) (take k ls) i 1) h in
      let b = and_parts (within t) (literals_in (length text) (take k ls) i 1) a.1 in
      let l = below i 1 b.1 in
      ap (λ x. binary o t (datum_of text x)) (sym (one_kept ls new k i nothing (omega arith) low))
  content_more (among o t r) h =
      let a = and_parts (is_set o) (within t && literals_in (length text) (take k ls) r.start r.count) h in
      let b = and_parts (within t) (literals_in (length text) (take k ls) r.start r.count) a.1 in
      ap (λ x. among o t (map (datum_of text) x)) (sym (run_kept ls new k r.start r.count (below r.start r.count b.1) low))

  -- the new ones
  pub in_new : list_all p new ≡ true → literals_in (length text) (take k' ls') k (length new) ≡ true
  in_new e =
      let z = long' in
      and_from _ _ (le-leb (k + length new) (length (take k' ls')) (omega arith)) (ap (list_all p) (run_part ls' k' k (length new) (omega arith) ∙ run_new ls new k low) ∙ e)

  pub read_new : map (datum_of text) (take (length new) (drop k ls')) ≡ map (datum_of text) new
  read_new = ap (map (datum_of text)) (run_new ls new k low)

pub read_one : (text : List ℕ) (ls : List Literal) (l : Literal) (k : ℕ) → k ≤ length ls → datum_of text (get_or (placed ls k (l ∷ [])) k nothing) ≡ datum_of text l
read_one text ls l k low = ap (datum_of text) (one_new ls l k nothing low)
