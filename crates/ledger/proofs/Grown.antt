-- One step of the book: up to two filters are used up, and one comes.
use Rattle.std.proofs.Common.{◌≡◌, ℕ, ◌<◌, ◌≤◌, Bool, true, false, cond, not, ◌&&◌, T as True, eqb, ltb, ◌⊎◌, List, length, sym, refl, ap, ◌∙◌, subst, ap₂, inl, inr, arith, eqb→eq, ltb-true, lt-ltb, eq-eqb, ne_eqb, eqb-true}
use mathlib.Core.Option.{Option, some, none}
use lib.Dec.{eqb_refl}
use borrow.Author.Tests.{eqb-false}
use Rattle.filters.specs.Trees.{Tree}
use Rattle.filters.specs.Runs.{Sheet, enter, take_out, from_one, from_two}
use Rattle.filters.specs.Placed.{Form, Placed, constant_at, condition_at, and_node_at, or_node_at, not_node_at, root, In, Apart, Sound, Holds}
use Rattle.filters.proofs.Placed.{root_in, frame}
use Rattle.ledger.specs.Law.{through}
use Rattle.nodes.specs.declared.slots.Mark.TheVariants.{Standing as Stands, Joined, Struck}
use Rattle.nodes.specs.declared.slots.Slot.{Slot}
use Rattle.nodes.specs.Tables.{Held, at, nodes, filter_at}
use Rattle.nodes.specs.Soundness.{is_standing, stands}
use Rattle.nodes.proofs.Found.{held_is}
use Rattle.nodes.proofs.Order.{Ordered}
use Rattle.book.proofs.Turned.{mark_of, form_of}
use Rattle.nodes.proofs.Lowest.{Sane}
use Rattle.nodes.proofs.Order.{both_true}
use Rattle.nodes.proofs.Forest.{Firm, sheet, Alive, decide, Forest, forest, forest_count, at_sheet}
use Rattle.book.proofs.Called.{Free, stands_mark}

entered_cases : {Y : Type 0} (b : Bool) (x y : Y) (o : Option Y) → cond b (some x) o ≡ some y → (True b × (x ≡ y)) ⊎ (True (not b) × (o ≡ some y))
entered_cases true x y o e = inl (tt, cc)
entered_cases false x y o e = inr (tt, e)

out_cases : {Y : Type 0} (b : Bool) (y : Y) (o : Option Y) → cond b none o ≡ some y → True (not b) × (o ≡ some y)
out_cases true y o e = let z : ◌≡◌ {A = ℕ} 0 1 = cc in absurd (omega arith)
out_cases false y o e = (tt, e)

differ : (n k : ℕ) → True (not (eqb n k)) → n ≡ k → ⊥
differ n k t e = no_both (eqb n k) t (subst (λ j. True (eqb n j)) e (eqb_refl n))
  where
    no_both : (b : Bool) → True (not b) → True b → ⊥
    no_both true t s = t
    no_both false t s = s

-- Every call is this step: up to two filters are used up, and one comes, with their nodes and at most the next one.
-- What the call owes: the new tree is sound, held, entered at its root, and nothing else in the table changed.
module _ {X : Type 0} (at at' : ℕ → Form X) (used used' : ℕ) (f : Sheet (Placed X)) (st : Firm at used f) (Old : ℕ → Type 0) (more : used ≤ used')
    (gone : Sheet (Placed X)) (left : (n : ℕ) (p : Placed X) → gone n ≡ some p → (f n ≡ some p) × ((k : ℕ) → In k p → Old k → ⊥))
    (new : Placed X) (new_sound : Sound new) (new_held : Holds at' new) (new_in : (k : ℕ) → In k new → Old k ⊎ (used ≤ k)) (new_below : (k : ℕ) → In k new → k < used')
    (rest : (k : ℕ) → k < used → (Old k → ⊥) → at' k ≡ at k) where
  abbrev now_sheet : Sheet (Placed X)
  now_sheet = enter (root new) new gone

  entry : (n : ℕ) (p : Placed X) → now_sheet n ≡ some p → ((root new ≡ n) × (new ≡ p)) ⊎ ((root new ≡ n → ⊥) × (gone n ≡ some p))
  entry n p e = elim (entered_cases (eqb (root new) n) new p (gone n) e) [ inl h ↦ inl (eqb→eq (root new) n h.0, h.1) | inr h ↦ inr (differ (root new) n h.0, h.1) ]

  far : (n : ℕ) (p : Placed X) → gone n ≡ some p → Apart new p
  far n p e k i j = elim (new_in k i) [ inl o ↦ (left n p e).1 k j o | inr u ↦ let b = st.below n p (left n p e).0 k j in omega arith ]

  stepped : Firm at' used' now_sheet
  stepped = record {
    rooted = λ n p e. elim (entry n p e) [ inl h ↦ sym (ap root h.1) ∙ h.0 | inr h ↦ st.rooted n p (left n p h.1).0 ];
    sound = λ n p e. elim (entry n p e) [ inl h ↦ subst Sound h.1 new_sound | inr h ↦ st.sound n p (left n p h.1).0 ];
    held = λ n p e. elim (entry n p e) [ inl h ↦ subst (Holds at') h.1 new_held | inr h ↦ frame at at' p (λ k i. rest k (st.below n p (left n p h.1).0 k i) ((left n p h.1).1 k i)) (st.held n p (left n p h.1).0) ];
    below = λ n p e k i. elim (entry n p e) [ inl h ↦ new_below k (subst (In k) (sym h.1) i) | inr h ↦ let b = st.below n p (left n p h.1).0 k i in omega arith ];
    apart = λ n m p q e d ne. elim (entry n p e) [
      | inl h ↦ elim (entry m q d) [ inl i ↦ absurd (ne (sym h.0 ∙ i.0)) | inr i ↦ λ k a b. far m q i.1 k (subst (In k) (sym h.1) a) b ]
      | inr h ↦ elim (entry m q d) [ inl i ↦ λ k a b. far n p h.1 k (subst (In k) (sym i.1) b) a | inr i ↦ st.apart n m p q (left n p h.1).0 (left m q i.1).0 ne ]
    ];
  }

-- whether a number is one of a filter's
pub in_dec : {X : Type 0} (k : ℕ) (p : Placed X) → In k p ⊎ (In k p → ⊥)
in_dec k (constant_at n b) = decide k n
in_dec k (condition_at n c) = decide k n
in_dec k (and_node_at n l r) = elim (decide k n) [ inl e ↦ inl (inl e) | inr e ↦ elim (in_dec k l) [ inl i ↦ inl (inr (inl i)) | inr i ↦ elim (in_dec k r) [ inl j ↦ inl (inr (inr j)) | inr j ↦ inr (λ z. elim z [ inl x ↦ e x | inr (inl x) ↦ i x | inr (inr x) ↦ j x ]) ] ] ]
in_dec k (or_node_at n l r) = elim (decide k n) [ inl e ↦ inl (inl e) | inr e ↦ elim (in_dec k l) [ inl i ↦ inl (inr (inl i)) | inr i ↦ elim (in_dec k r) [ inl j ↦ inl (inr (inr j)) | inr j ↦ inr (λ z. elim z [ inl x ↦ e x | inr (inl x) ↦ i x | inr (inr x) ↦ j x ]) ] ] ]
in_dec k (not_node_at n p) = elim (decide k n) [ inl e ↦ inl (inl e) | inr e ↦ elim (in_dec k p) [ inl i ↦ inl (inr i) | inr i ↦ inr (λ z. elim z [ inl x ↦ e x | inr x ↦ i x ]) ] ]

through-cond : {Y Z : Type 0} (f : Y → Z) (b : Bool) (o q : Option Y) → through f (cond b o q) ≡ cond b (through f o) (through f q)
through-cond f true o q = refl
through-cond f false o q = refl

same_some : {Y : Type 0} (x y : Y) (o : Option Y) → o ≡ some x → o ≡ some y → x ≡ y
same_some x y o d e = cc

module _ {T : Type 0} where
  pub record Step (xs ys : List (Slot T)) (used used' : ℕ) (Old : ℕ → Type 0) (new : Placed (Held T)) : Type 0 where
    pub grows : used ≤ used'
    pub fits : used' ≤ length ys
    pub few : used' ≤ 256
    pub order : Ordered ys used'
    pub sound : Sound new
    pub held : Holds (nodes ys) new
    pub from : (k : ℕ) → In k new → Old k ⊎ (used ≤ k)
    pub low : (k : ℕ) → In k new → k < used'
    pub rest : (k : ℕ) → k < used → (Old k → ⊥) → at ys k ≡ at xs k
    pub top : (at ys (root new)).mark ≡ Stands
    pub inner : (k : ℕ) → In k new → (k ≡ root new → ⊥) → (at ys k).mark ≡ Joined
    pub out : (k : ℕ) → Old k → (In k new → ⊥) → (at ys k).mark ≡ Struck
    pub fresh : (k : ℕ) → used ≤ k → k < used' → In k new
    pub dec : (k : ℕ) → Old k ⊎ (Old k → ⊥)

  module _ (xs ys : List (Slot T)) (used used' : ℕ) (Old : ℕ → Type 0) (new : Placed (Held T)) (sane : Sane xs used) (step : Step xs ys used used' Old new)
      (gone : Sheet (Placed (Held T))) (left : (n : ℕ) (p : Placed (Held T)) → gone n ≡ some p → (sheet xs used n ≡ some p) × ((k : ℕ) → In k p → Old k → ⊥))
      (keep : (n : ℕ) (p : Placed (Held T)) (k : ℕ) → sheet xs used n ≡ some p → In k p → Old k ⊎ (gone n ≡ some p)) where
    abbrev later : Sheet (Placed (Held T))
    later = enter (root new) new gone

    fo : Forest xs used (sheet xs used)
    fo = forest xs used sane

    cases : (n : ℕ) (p : Placed (Held T)) → later n ≡ some p → ((n ≡ root new) × (new ≡ p)) ⊎ ((root new ≡ n → ⊥) × (gone n ≡ some p))
    cases n p e = by (eqb (root new) n) refl e
      where
        by : (b : Bool) → eqb (root new) n ≡ b → cond b (some new) (gone n) ≡ some p → ((n ≡ root new) × (new ≡ p)) ⊎ ((root new ≡ n → ⊥) × (gone n ≡ some p))
        by true d e = inl (sym (eqb-true (root new) n d), cc)
        by false d e = inr (eqb-false (root new) n d, e)

    -- a filter that is left is as it was
    stays : (n : ℕ) (p : Placed (Held T)) → gone n ≡ some p → (k : ℕ) → In k p → at ys k ≡ at xs k
    stays n p e k i = let l = left n p e in step.rest k (fo.firm.below n p l.0 k i) (l.1 k i)

    grown : Forest ys used' later
    grown = record {
      firm = stepped (nodes xs) (nodes ys) used used' (sheet xs used) fo.firm Old step.grows gone left new step.sound step.held step.from step.low (λ k h o. form_of _ _ (step.rest k h o));
      top = λ n p e. elim (cases n p e) [
        | inl h ↦ ap (λ j. (at ys j).mark) h.0 ∙ step.top
        | inr h ↦ let l = left n p h.1 in mark_of _ _ (stays n p h.1 n (subst (λ j. In j p) (fo.firm.rooted n p l.0) (root_in p))) ∙ fo.top n p l.0
      ];
      inner = λ n p e k i ne. elim (cases n p e) [
        | inl h ↦ step.inner k (subst (In k) (sym h.1) i) (λ d. ne (d ∙ sym h.0))
        | inr h ↦ let l = left n p h.1 in mark_of _ _ (stays n p h.1 k i) ∙ fo.inner n p l.0 k i ne
      ];
      cover = λ k h a. elim (in_dec k new) [
        | inl i ↦ (root new, new, ap (λ b. cond b (some new) (gone (root new))) (eq-eqb (root new) (root new) refl), i)
        | inr i ↦ elim (step.dec k) [
          | inl o ↦ absurd (subst Alive (step.out k o i) a)
          | inr o ↦ by (ltb k used) refl h a i o
        ]
      ];
    }
      where
        by : {k : ℕ} (b : Bool) → ltb k used ≡ b → k < used' → Alive (at ys k).mark → (In k new → ⊥) → (Old k → ⊥) → (n : ℕ) × (p : Placed (Held T)) × (later n ≡ some p) × In k p
        by {k} true e h a i o =
            let l = ltb-true k used e in
            let v = fo.cover k l (subst Alive (mark_of _ _ (step.rest k l o)) a) in
            let g : gone v.0 ≡ some v.1 = elim (keep v.0 v.1 k v.2 v.3) [ inl z ↦ absurd (o z) | inr z ↦ z ] in
            let ne : root new ≡ v.0 → ⊥ = λ d.
            let r = fo.firm.rooted v.0 v.1 v.2 in
            let inp : In v.0 v.1 = subst (λ j. In j v.1) r (root_in v.1) in
            elim (step.from v.0 (subst (λ j. In j new) d (root_in new))) [
              | inl z ↦ (left v.0 v.1 g).1 v.0 inp z
              | inr z ↦ let b = fo.firm.below v.0 v.1 v.2 v.0 inp in omega arith
            ] in
            (v.0, v.1, ap (λ b. cond b (some new) (gone v.0)) (ne_eqb (root new) v.0 ne) ∙ g, v.3)
        by {k} false e h a i o = absurd (i (step.fresh k (borrow.Author.Tests.ltb-false k used e) h))

    pub later_sane : Sane ys used'
    later_sane = record { fits = step.fits; few = step.few; order = step.order; count = forest_count ys used' later grown step.order }

    -- a forest's sheet is the one that the marks show
    unique : (n : ℕ) → later n ≡ sheet ys used' n
    unique n = by (stands ys used' n) refl (later n) refl
      where
        found : (p : Placed (Held T)) → later n ≡ some p → filter_at ys n ≡ p
        found p e = ap (filter_at ys) (sym (grown.firm.rooted n p e)) ∙ held_is (nodes ys) p (grown.firm.held n p e) (grown.firm.sound n p e)

        same : (p : Placed (Held T)) → later n ≡ some p → later n ≡ some (filter_at ys n)
        same p e = e ∙ ap some (sym (found p e))

        by : (b : Bool) → stands ys used' n ≡ b → (o : Option (Placed (Held T))) → later n ≡ o → later n ≡ cond b (some (filter_at ys n)) none
        by true d (some p) e = same p e
        by true d none e =
            let t = both_true (ltb n used') (is_standing (at ys n).mark) d in
            let s = At_mark d in
            let v = grown.cover n (ltb-true n used' t.0) (subst Alive (sym s) tt) in
            elim (decide n v.0) [
              | inl z ↦ same v.1 (ap later z ∙ v.2)
              | inr z ↦ let m = grown.inner v.0 v.1 v.2 n v.3 z in let w : ◌≡◌ {A = ℕ} 0 1 = cc in absurd (omega arith)
            ]
          where
            At_mark : stands ys used' n ≡ true → (at ys n).mark ≡ Stands
            At_mark d = stands_mark (at ys n).mark (both_true (ltb n used') (is_standing (at ys n).mark) d).1
        by false d none e = e
        by false d (some p) e =
            let m = grown.top n p e in
            let r = grown.firm.rooted n p e in
            let l = grown.firm.below n p e n (subst (λ j. In j p) r (root_in p)) in
            let z = sym d ∙ ap₂ ◌&&◌ (lt-ltb n used' l) (ap is_standing m) in
            let w : ◌≡◌ {A = ℕ} 0 1 = cc in absurd (omega arith)

    pub later_trees : {W : Type 0} (view : Placed (Held T) → Tree W) (x : Tree W) (r : ℕ) (b' : Sheet (Tree W)) → view new ≡ x → r ≡ root new → ((j : ℕ) → through view (gone j) ≡ b' j) → (n : ℕ) → through view (sheet ys used' n) ≡ enter r x b' n
    later_trees view x r b' e er bs n =
        sym (ap (through view) (unique n)) ∙ through-cond view (eqb (root new) n) (some new) (gone n) ∙ ap₂ (λ u v. cond (eqb (root new) n) u v) (ap some e) (bs n) ∙ ap (λ i. cond (eqb i n) (some x) (b' n)) (sym er)

module _ {T W : Type 0} (view : Placed (Held T) → Tree W) where
  -- what holds between runs and tables
  pub record Inv (xs : List (Slot T)) (used : ℕ) (b : Sheet (Tree W)) : Type 0 where
    pub sane : Sane xs used
    pub trees : (n : ℕ) → through view (sheet xs used n) ≡ b n

  pub laid_one : (xs ys : List (Slot T)) (used used' : ℕ) (b : Sheet (Tree W)) (new : Placed (Held T)) (x : Tree W) (r : ℕ) → Inv xs used b → Step xs ys used used' (λ k. ⊥) new → view new ≡ x → r ≡ root new → Inv ys used' (enter r x b)
  laid_one xs ys used used' b new x r i s e er =
      record {
        sane = later_sane xs ys used used' (λ k. ⊥) new i.sane s (sheet xs used) (λ n p d. (d, λ k m z. z)) (λ n p k d m. inr d);
        trees = later_trees xs ys used used' (λ k. ⊥) new i.sane s (sheet xs used) (λ n p d. (d, λ k m z. z)) (λ n p k d m. inr d) view x r b e er i.trees;
      }

  free_at : (xs : List (Slot T)) (used : ℕ) (b : Sheet (Tree W)) (a : ℕ) → Inv xs used b → Free xs used a → (sheet xs used a ≡ some (filter_at xs a)) × (b a ≡ some (view (filter_at xs a)))
  free_at xs used b a i f = let e = at_sheet xs used f.sane a f.low f.mark in (e, sym (i.trees a) ∙ ap (through view) e)

  -- one filter used up
  pub turned_one : (xs ys : List (Slot T)) (used used' : ℕ) (b : Sheet (Tree W)) (a r : ℕ) (new : Placed (Held T)) (f : Tree W → Tree W) → Inv xs used b → Free xs used a → Step xs ys used used' (λ k. In k (filter_at xs a)) new → view new ≡ f (view (filter_at xs a)) → r ≡ root new → Inv ys used' (from_one f a r b (b a))
  turned_one xs ys used used' b a r new f i fr s e er =
      let p = filter_at xs a in
      let at_a = free_at xs used b a i fr in
      let fo = forest xs used i.sane in
      let gone = take_out a (sheet xs used) in
      let left : (n : ℕ) (q : Placed (Held T)) → gone n ≡ some q → (sheet xs used n ≡ some q) × ((k : ℕ) → In k q → In k p → ⊥) =
      λ n q d. let o = out_cases (eqb a n) q (sheet xs used n) d in (o.1, λ k x y. fo.firm.apart a n p q at_a.0 o.1 (differ a n o.0) k y x) in
      let keep : (n : ℕ) (q : Placed (Held T)) (k : ℕ) → sheet xs used n ≡ some q → In k q → In k p ⊎ (gone n ≡ some q) =
      λ n q k d m. elim (decide a n) [
        | inl z ↦ inl (subst (In k) (same_some q p (sheet xs used n) d (ap (sheet xs used) (sym z) ∙ at_a.0)) m)
        | inr z ↦ inr (ap (λ c. cond c none (sheet xs used n)) (ne_eqb a n z) ∙ d)
      ] in
      subst (λ o. Inv ys used' (from_one f a r b o)) (sym at_a.1)
      (record {
        sane = later_sane xs ys used used' (λ k. In k p) new i.sane s gone left keep;
        trees = later_trees xs ys used used' (λ k. In k p) new i.sane s gone left keep view (f (view p)) r (take_out a b) e er (λ j. through-cond view (eqb a j) none (sheet xs used j) ∙ ap (λ o. cond (eqb a j) none o) (i.trees j));
      })

  -- two filters used up
  pub joined_two : (xs ys : List (Slot T)) (used used' : ℕ) (b : Sheet (Tree W)) (a a' r : ℕ) (new : Placed (Held T)) (f : Tree W → Tree W → Tree W) → Inv xs used b → Free xs used a → Free xs used a' → Step xs ys used used' (λ k. In k (filter_at xs a) ⊎ In k (filter_at xs a')) new → view new ≡ f (view (filter_at xs a)) (view (filter_at xs a')) → r ≡ root new → Inv ys used' (from_two f a a' r b (b a) (b a'))
  joined_two xs ys used used' b a a' r new f i fr fr' s e er =
      let p = filter_at xs a in
      let q = filter_at xs a' in
      let at_a = free_at xs used b a i fr in
      let at_b = free_at xs used b a' i fr' in
      let fo = forest xs used i.sane in
      let gone = take_out a (take_out a' (sheet xs used)) in
      let left : (n : ℕ) (u : Placed (Held T)) → gone n ≡ some u → (sheet xs used n ≡ some u) × ((k : ℕ) → In k u → In k p ⊎ In k q → ⊥) =
      λ n u d.
      let o = out_cases (eqb a n) u (take_out a' (sheet xs used) n) d in
      let o' = out_cases (eqb a' n) u (sheet xs used n) o.1 in
      (o'.1, λ k x y. elim y [ inl z ↦ fo.firm.apart a n p u at_a.0 o'.1 (differ a n o.0) k z x | inr z ↦ fo.firm.apart a' n q u at_b.0 o'.1 (differ a' n o'.0) k z x ]) in
      let keep : (n : ℕ) (u : Placed (Held T)) (k : ℕ) → sheet xs used n ≡ some u → In k u → (In k p ⊎ In k q) ⊎ (gone n ≡ some u) =
      λ n u k d m. elim (decide a n) [
        | inl z ↦ inl (inl (subst (In k) (same_some u p (sheet xs used n) d (ap (sheet xs used) (sym z) ∙ at_a.0)) m))
        | inr z ↦ elim (decide a' n) [
          | inl y ↦ inl (inr (subst (In k) (same_some u q (sheet xs used n) d (ap (sheet xs used) (sym y) ∙ at_b.0)) m))
          | inr y ↦ inr (ap (λ c. cond c none (take_out a' (sheet xs used) n)) (ne_eqb a n z) ∙ ap (λ c. cond c none (sheet xs used n)) (ne_eqb a' n y) ∙ d)
        ]
      ] in
      subst (λ o. Inv ys used' (from_two f a a' r b o (b a'))) (sym at_a.1)
      (subst (λ o. Inv ys used' (from_two f a a' r b (some (view p)) o)) (sym at_b.1)
      (record {
        sane = later_sane xs ys used used' (λ k. In k p ⊎ In k q) new i.sane s gone left keep;
        trees = later_trees xs ys used used' (λ k. In k p ⊎ In k q) new i.sane s gone left keep view (f (view p) (view q)) r (take_out a (take_out a' b)) e er
            (λ j. through-cond view (eqb a j) none (take_out a' (sheet xs used) j) ∙ ap (λ o. cond (eqb a j) none o) (through-cond view (eqb a' j) none (sheet xs used j) ∙ ap (λ o. cond (eqb a' j) none o) (i.trees j)));
      }))
