-- The check of a table, and what it says.
use Rattle.std.proofs.Common.{◌≡◌, ℕ, zero, suc, ◌<◌, ◌≤◌, min, Bool, true, false, ◌&&◌, eqb, leb, List, length, get_or, take, Some, None, Option, sym, refl, ap, ◌∙◌, subst, ap₂, arith, eq-eqb, ne_eqb, eqb-true, get_or-take, length-take, le-leb, leb-true}
use borrow.Author.Tests.{eqb-false, lt-leb}
use Rattle.values.specs.declared.literals.Literal.{Literal}
use Rattle.nodes.specs.declared.slots.Slot.{Slot}
use Rattle.nodes.specs.Tables.{Held, nowhere, at, form, nodes}
use Rattle.nodes.specs.Soundness.{fits, bit, parents, is_joined, in_order, sound_at, else_at, lowest, node_room, literal_room, used_of, unsound}
use Rattle.nodes.proofs.Counted.{part_count}
use Rattle.nodes.proofs.Found.{read}
use Rattle.nodes.proofs.Order.{Ordered, Fitting, both_true, order_below, order_fit, in_order_of}

-- what the check says of the nodes and their marks
pub record Sane {T : Type 0} (xs : List (Slot T)) (used : ℕ) : Type 0 where
  pub fits : used ≤ length xs
  pub few : used ≤ 256
  pub order : Ordered xs used
  pub count : (n : ℕ) → n < used → parents xs used n ≡ bit (is_joined (at xs n).mark)

module _ (good : ℕ → Bool) where
  pub lowest_hit : (k n : ℕ) → lowest good n ≡ None → good n ≡ false → n < k → lowest good k ≡ Some n
  lowest_hit zero n e d h = absurd (omega arith)
  lowest_hit (suc k) n e d h = by (eqb n k) refl (λ l. lowest_hit k n e d l)
    where
      by : (b : Bool) → eqb n k ≡ b → (n < k → lowest good k ≡ Some n) → else_at (lowest good k) (good k) k ≡ Some n
      by true f i = subst (λ j. else_at (lowest good j) (good j) j ≡ Some n) (eqb-true n k f) (ap₂ (λ o b. else_at o b n) e d)
      by false f i = let g = eqb-false n k f in ap (λ o. else_at o (good k) k) (i (omega (arith, g, h)))

  else_none : (o : Option ℕ) (b : Bool) (k : ℕ) → else_at o b k ≡ None → (o ≡ None) × (b ≡ true)
  else_none (Some i) b k e = let z : ◌≡◌ {A = ℕ} 0 1 = cc in absurd (omega arith)
  else_none None true k e = (refl, refl)
  else_none None false k e = let z : ◌≡◌ {A = ℕ} 0 1 = cc in absurd (omega arith)

  pub lowest_more : (n : ℕ) → lowest good n ≡ None → good n ≡ true → lowest good (suc n) ≡ None
  lowest_more n e d = ap₂ (λ o b. else_at o b n) e d

  pub none_each : (k : ℕ) → lowest good k ≡ None → (n : ℕ) → n < k → good n ≡ true
  none_each zero e n h = absurd (omega arith)
  none_each (suc k) e n h = by (eqb n k) refl (λ l. none_each k (else_none (lowest good k) (good k) k e).0 n l)
    where
      by : (b : Bool) → eqb n k ≡ b → (n < k → good n ≡ true) → good n ≡ true
      by true f i = ap good (eqb-true n k f) ∙ (else_none (lowest good k) (good k) k e).1
      by false f i = let g = eqb-false n k f in i (omega (arith, g, h))

  pub each_none : (k : ℕ) → ((n : ℕ) → n < k → good n ≡ true) → lowest good k ≡ None
  each_none zero h = refl
  each_none (suc k) h = lowest_more k (each_none k (λ n l. h n (omega arith))) (h k (omega arith))

module _ {T : Type 0} (within : T → Bool) (text : ℕ) (ls : List Literal) (stored : ℕ) where
  abbrev fit : Held T → Bool
  fit = fits within text (used_of ls stored)

  abbrev counts_fit : List (Slot T) → ℕ → Bool
  counts_fit xs used = leb used (node_room xs) && leb stored (literal_room ls)

  -- the tables, cut to what there may be of them
  pub record Cut (xs : List (Slot T)) (used k held : ℕ) : Type 0 where
    pub nodes_cut : k ≡ min used (node_room xs)
    pub literals_cut : held ≡ min stored (literal_room ls)

  pub cut : (xs : List (Slot T)) (used k held rm lr : ℕ) → rm ≡ node_room xs → k ≡ min used rm → lr ≡ literal_room ls → held ≡ min stored lr → Cut xs used k held
  cut xs used k held rm lr er ek el eh = record { nodes_cut = ek ∙ ap (min used) er; literals_cut = eh ∙ ap (min stored) el }

module _ {T : Type 0} {within : T → Bool} {text : ℕ} {ls : List Literal} {stored : ℕ} where
  -- the check, as the code goes
  module _ {xs : List (Slot T)} {used k held : ℕ} (c : Cut within text ls stored xs used k held) where
    is_fit : fits within text (take held ls) ≡ fit within text ls stored
    is_fit = ap (λ j. fits within text (take j ls)) c.literals_cut

    below_cut : (n : ℕ) → n < length (take k xs) → n < k
    below_cut n h = let d = length-take k xs in omega arith

    -- a node, as the code reads it
    module _ {n : ℕ} {s : Slot T} (h : n < length (take k xs)) (e : s ≡ get_or (take k xs) n s) where
      es : at xs n ≡ s
      es = sym (get_or-take k xs n nowhere (below_cut n h)) ∙ read (take k xs) n s h e

      order_is : (b : Bool) → b ≡ in_order (fits within text (take held ls)) (form s.node) n → in_order (fit within text ls stored) (nodes xs n) n ≡ b
      order_is b o = sym (o ∙ ap₂ (λ f (u : Slot T). in_order f (form u.node) n) is_fit (sym es))

      count_is : (v j : ℕ) → (n < 256 → v ≡ parents (take k xs) (length (take k xs)) n) → j ≡ bit (is_joined s.mark) → eqb (parents xs k n) (bit (is_joined (at xs n).mark)) ≡ eqb v j
      count_is v j ev ej =
          let z = c.nodes_cut in
          let l = below_cut n h in
          let w = part_count k xs n v (omega arith) (ev (omega arith)) in
          ap₂ eqb (sym w) (sym (ej ∙ ap (λ (u : Slot T). bit (is_joined u.mark)) (sym es)))

      pub not_ordered : false ≡ in_order (fits within text (take held ls)) (form s.node) n → sound_at (fit within text ls stored) xs k n ≡ false
      not_ordered o = ap (λ b. b && eqb (parents xs k n) (bit (is_joined (at xs n).mark))) (order_is false o)

      pub not_counted : (v j : ℕ) → true ≡ in_order (fits within text (take held ls)) (form s.node) n → (n < 256 → v ≡ parents (take k xs) (length (take k xs)) n) → j ≡ bit (is_joined s.mark) → (v ≡ j → ⊥) → sound_at (fit within text ls stored) xs k n ≡ false
      not_counted v j o ev ej ne = ap₂ ◌&&◌ (order_is true o) (count_is v j ev ej ∙ ne_eqb v j ne)

      pub counted : (v j : ℕ) → true ≡ in_order (fits within text (take held ls)) (form s.node) n → (n < 256 → v ≡ parents (take k xs) (length (take k xs)) n) → j ≡ bit (is_joined s.mark) → v ≡ j → sound_at (fit within text ls stored) xs k n ≡ true
      counted v j o ev ej d = ap₂ ◌&&◌ (order_is true o) (count_is v j ev ej ∙ eq-eqb v j d)

    module _ {n : ℕ} (e : lowest (sound_at (fit within text ls stored) xs k) n ≡ None) where
      pub check_hit : n < length (take k xs) → sound_at (fit within text ls stored) xs k n ≡ false → Some n ≡ unsound within text xs used ls stored
      unfolding unsound
      check_hit h d = sym (subst (λ j. else_at (lowest (sound_at (fit within text ls stored) xs j) j) (counts_fit within text ls stored xs used) j ≡ Some n) c.nodes_cut (ap (λ o. else_at o (counts_fit within text ls stored xs used) k) (lowest_hit (sound_at (fit within text ls stored) xs k) k n e d (below_cut n h))))

      check_all : length (take k xs) ≤ n → n ≤ length (take k xs) → (b : Bool) → counts_fit within text ls stored xs used ≡ b → else_at None b k ≡ unsound within text xs used ls stored
      unfolding unsound
      check_all h i b f =
          let l = length-take k xs in
          let z = c.nodes_cut in
          let d : n ≡ k = omega arith in
          sym (subst (λ j. else_at (lowest (sound_at (fit within text ls stored) xs j) j) (counts_fit within text ls stored xs used) j ≡ else_at None b k) c.nodes_cut (ap₂ (λ o f. else_at o f k) (subst (λ j. lowest (sound_at (fit within text ls stored) xs k) j ≡ None) d e) f))

      pub check_none : length (take k xs) ≤ n → n ≤ length (take k xs) → used ≡ k → stored ≡ held → None ≡ unsound within text xs used ls stored
      check_none h i u d = let y = c.nodes_cut in let z = c.literals_cut in check_all h i true (ap₂ ◌&&◌ (le-leb used (node_room xs) (omega arith)) (le-leb stored (literal_room ls) (omega arith)))

      pub check_nodes : length (take k xs) ≤ n → n ≤ length (take k xs) → (used ≡ k → ⊥) → Some k ≡ unsound within text xs used ls stored
      check_nodes h i ne = let z = c.nodes_cut in check_all h i false (ap (λ b. b && leb stored (literal_room ls)) (lt-leb used (node_room xs) (omega arith)))

      pub check_literals : length (take k xs) ≤ n → n ≤ length (take k xs) → used ≡ k → (stored ≡ held → ⊥) → Some k ≡ unsound within text xs used ls stored
      check_literals h i d ne = let y = c.nodes_cut in let z = c.literals_cut in check_all h i false (ap₂ ◌&&◌ (le-leb used (node_room xs) (omega arith)) (lt-leb stored (literal_room ls) (omega arith)))

module _ {T : Type 0} (within : T → Bool) (text : ℕ) (ls : List Literal) (stored : ℕ) where
  -- what the check says of the nodes
  pub passed : (xs : List (Slot T)) (used : ℕ) → unsound within text xs used ls stored ≡ None → Sane xs used × Fitting (fit within text ls stored) xs used × (stored ≤ literal_room ls)
  unfolding unsound
  passed xs used e =
      let m = min used (node_room xs) in
      let d = else_none (sound_at (fit within text ls stored) xs m) (lowest (sound_at (fit within text ls stored) xs m) m) (counts_fit within text ls stored xs used) m e in
      let b = both_true (leb used (node_room xs)) (leb stored (literal_room ls)) d.1 in
      let l : used ≤ node_room xs = leb-true used (node_room xs) b.0 in
      let w : m ≡ used = omega arith in
      let a = none_each (sound_at (fit within text ls stored) xs used) used (subst (λ j. lowest (sound_at (fit within text ls stored) xs j) j ≡ None) w d.0) in
      let two : (n : ℕ) → n < used → (in_order (fit within text ls stored) (nodes xs n) n ≡ true) × (eqb (parents xs used n) (bit (is_joined (at xs n).mark)) ≡ true) = λ n h. both_true (in_order (fit within text ls stored) (nodes xs n) n) (eqb (parents xs used n) (bit (is_joined (at xs n).mark))) (a n h) in (
        record {
          fits = omega arith;
          few = omega arith;
          order = λ n h. order_below (fit within text ls stored) (nodes xs n) n (two n h).0;
          count = λ n h. eqb-true (parents xs used n) (bit (is_joined (at xs n).mark)) (two n h).1;
        },
        λ n h. order_fit (fit within text ls stored) (nodes xs n) n (two n h).0,
        leb-true stored (literal_room ls) b.1,
      )

  pub passes : (xs : List (Slot T)) (used : ℕ) → Sane xs used → Fitting (fit within text ls stored) xs used → stored ≤ literal_room ls → unsound within text xs used ls stored ≡ None
  unfolding unsound
  passes xs used s f r =
      let x = s.fits in
      let y = s.few in
      let l : used ≤ node_room xs = omega arith in
      let m : used ≡ min used (node_room xs) = omega arith in
      let a = each_none (sound_at (fit within text ls stored) xs used) used (λ n h. ap₂ ◌&&◌ (in_order_of (fit within text ls stored) (nodes xs n) n (s.order n h) (f n h)) (eq-eqb (parents xs used n) (bit (is_joined (at xs n).mark)) (s.count n h))) in
      ap₂ (λ o b. else_at o b (min used (node_room xs))) (subst (λ j. lowest (sound_at (fit within text ls stored) xs j) j ≡ None) m a) (ap₂ ◌&&◌ (le-leb used (node_room xs) l) (le-leb stored (literal_room ls) r))
