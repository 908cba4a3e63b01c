-- A filter turned into another in place: what becomes of each node.
use Rattle.std.proofs.Common.{◌≡◌, ℕ, ◌<◌, Bool, true, false, not, eqb, ltb, ◌⊎◌, List, length, set, Some, None, Option, sym, refl, ap, ◌∙◌, subst, ap₂, inl, inr, arith, length-set, ltb-false, ltb-true, eqb-true}
use mathlib.Core.Option.{Option as Maybe, some, none}
use lib.Seq.{set_out}
use borrow.Author.Tests.{eqb-false}
use Rattle.filters.specs.Trees.{plain}
use Rattle.filters.specs.Placed.{Form, always, test, Placed, constant_at, condition_at, and_node_at, or_node_at, not_node_at, root, tree, In, Apart, Sound, Holds, and_placed_by, or_placed_by, and_placed, or_placed, negated_placed, rewritten_placed}
use Rattle.filters.proofs.Placed.{root_in, in_le, frame, rewritten_sound}
use Rattle.nodes.specs.declared.slots.Mark.{Mark}
use Rattle.nodes.specs.declared.slots.Mark.TheVariants.{Struck}
use Rattle.book.specs.declared.edits.Keep.{Keep}
use Rattle.book.specs.declared.edits.Keep.TheVariants.{First, Second, Both}
use Rattle.nodes.specs.declared.slots.Node.{Node}
use Rattle.nodes.specs.declared.slots.Node.TheVariants.{And, Or}
use Rattle.nodes.specs.declared.slots.Slot.{Slot}
use Rattle.nodes.specs.Conditions.{unary, binary, among, opposite}
use Rattle.nodes.specs.Tables.{Held, slot, at, form, nodes}
use Rattle.nodes.specs.Filters.{constant_of, head}
use Rattle.book.specs.declared.edits.Connective.{Connective}
use Rattle.book.specs.declared.edits.Connective.TheVariants as C
use Rattle.book.specs.Edits.{marked, constant, holding, struck, negation, side, side_if, picked, join, join_at, joined, folding, rewriting}
use Rattle.nodes.proofs.Order.{Below, Ordered, Fit, Fitting, Fair}
use Rattle.book.proofs.Edited.{set_here, set_there, marked_nodes, marked_length, struck_nodes, struck_length, struck_there}

module _ {T : Type 0} where
  pub at_set : (xs : List (Slot T)) (n : ℕ) (s : Slot T) (k : ℕ) → n < length xs → ((k ≡ n) × (at (set xs n s) k ≡ s)) ⊎ ((k ≡ n → ⊥) × (at (set xs n s) k ≡ at xs k))
  at_set xs n s k h = by (eqb k n) refl
    where
      by : (b : Bool) → eqb k n ≡ b → ((k ≡ n) × (at (set xs n s) k ≡ s)) ⊎ ((k ≡ n → ⊥) × (at (set xs n s) k ≡ at xs k))
      by true e = let d = eqb-true k n e in inl (d, subst (λ j. at (set xs n s) j ≡ s) (sym d) (set_here xs n s h))
      by false e = inr (eqb-false k n e, set_there xs n k s (eqb-false k n e))

  pub mark_of : (s u : Slot T) → s ≡ u → s.mark ≡ u.mark
  mark_of s u e = ap (λ (x : Slot T). x.mark) e

  pub form_of : (s u : Slot T) → s ≡ u → form s.node ≡ form u.node
  form_of s u e = ap (λ (x : Slot T). form x.node) e

  -- what is struck stays struck
  cut_stays : (xs : List (Slot T)) (n k : ℕ) → (at xs k).mark ≡ Struck → (at (marked n Struck xs) k).mark ≡ Struck
  cut_stays xs n k e = by (ltb n (length xs)) refl
    where
      by : (b : Bool) → ltb n (length xs) ≡ b → (at (marked n Struck xs) k).mark ≡ Struck
      by true d = elim (at_set xs n (slot (at xs n).node Struck) k (ltb-true n (length xs) d)) [ inl h ↦ mark_of _ _ h.1 | inr h ↦ mark_of _ _ h.1 ∙ e ]
      by false d = ap (λ ys. (at ys k).mark) (set_out xs n (slot (at xs n).node Struck) (ltb-false n (length xs) d)) ∙ e

  pub struck_stays : (p : Placed (Held T)) (xs : List (Slot T)) (k : ℕ) → (at xs k).mark ≡ Struck → (at (struck p xs) k).mark ≡ Struck
  struck_stays (constant_at n b) xs k e = cut_stays xs n k e
  struck_stays (condition_at n c) xs k e = cut_stays xs n k e
  struck_stays (and_node_at n l r) xs k e = struck_stays r (struck l (marked n Struck xs)) k (struck_stays l (marked n Struck xs) k (cut_stays xs n k e))
  struck_stays (or_node_at n l r) xs k e = struck_stays r (struck l (marked n Struck xs)) k (struck_stays l (marked n Struck xs) k (cut_stays xs n k e))
  struck_stays (not_node_at n p) xs k e = struck_stays p (marked n Struck xs) k (cut_stays xs n k e)

  cut_here : (xs : List (Slot T)) (n k : ℕ) → k ≡ n → k < length xs → (at (marked n Struck xs) k).mark ≡ Struck
  cut_here xs n k e h = let l : n < length xs = omega arith in subst (λ j. (at (marked n Struck xs) j).mark ≡ Struck) (sym e) (mark_of _ _ (set_here xs n (slot (at xs n).node Struck) l))

  cut_long : (xs : List (Slot T)) (n k : ℕ) → k < length xs → k < length (marked n Struck xs)
  cut_long xs n k h = let e = marked_length xs n Struck in omega arith

  -- each node of a filter that is struck
  pub struck_here : (p : Placed (Held T)) (xs : List (Slot T)) (k : ℕ) → In k p → k < length xs → (at (struck p xs) k).mark ≡ Struck
  struck_here (constant_at n b) xs k i h = cut_here xs n k i h
  struck_here (condition_at n c) xs k i h = cut_here xs n k i h
  struck_here (and_node_at n l r) xs k (inl e) h = struck_stays r (struck l (marked n Struck xs)) k (struck_stays l (marked n Struck xs) k (cut_here xs n k e h))
  struck_here (and_node_at n l r) xs k (inr (inl i)) h = struck_stays r (struck l (marked n Struck xs)) k (struck_here l (marked n Struck xs) k i (cut_long xs n k h))
  struck_here (and_node_at n l r) xs k (inr (inr i)) h = let e = struck_length l (marked n Struck xs) in let m = cut_long xs n k h in struck_here r (struck l (marked n Struck xs)) k i (omega arith)
  struck_here (or_node_at n l r) xs k (inl e) h = struck_stays r (struck l (marked n Struck xs)) k (struck_stays l (marked n Struck xs) k (cut_here xs n k e h))
  struck_here (or_node_at n l r) xs k (inr (inl i)) h = struck_stays r (struck l (marked n Struck xs)) k (struck_here l (marked n Struck xs) k i (cut_long xs n k h))
  struck_here (or_node_at n l r) xs k (inr (inr i)) h = let e = struck_length l (marked n Struck xs) in let m = cut_long xs n k h in struck_here r (struck l (marked n Struck xs)) k i (omega arith)
  struck_here (not_node_at n p) xs k (inl e) h = struck_stays p (marked n Struck xs) k (cut_here xs n k e h)
  struck_here (not_node_at n p) xs k (inr i) h = struck_here p (marked n Struck xs) k i (cut_long xs n k h)

  -- only marks changed
  pub nodes_order : (xs ys : List (Slot T)) → ((k : ℕ) → (at ys k).node ≡ (at xs k).node) → (u : ℕ) → Ordered xs u → Ordered ys u
  nodes_order xs ys e u o k h = subst (λ x. Below x k) (sym (ap form (e k))) (o k h)

  pub nodes_held : (xs ys : List (Slot T)) → ((k : ℕ) → (at ys k).node ≡ (at xs k).node) → (p : Placed (Held T)) → Holds (nodes xs) p → Holds (nodes ys) p
  nodes_held xs ys e p h = frame (nodes xs) (nodes ys) p (λ k i. ap form (e k)) h

  pub set_order : (xs : List (Slot T)) (n : ℕ) (s : Slot T) → n < length xs → Below (form s.node) n → (u : ℕ) → Ordered xs u → Ordered (set xs n s) u
  set_order xs n s i b u o k h =
      elim (at_set xs n s k i)
      [ inl e ↦ subst (λ x. Below x k) (sym (form_of _ _ e.1)) (subst (λ j. Below (form s.node) j) (sym e.0) b) | inr e ↦ subst (λ x. Below x k) (sym (form_of _ _ e.1)) (o k h) ]

  nodes_fit : (xs ys : List (Slot T)) → ((k : ℕ) → (at ys k).node ≡ (at xs k).node) → (fit : Held T → Bool) (u : ℕ) → Fitting fit xs u → Fitting fit ys u
  nodes_fit xs ys e fit u o k h = subst (Fit fit) (sym (ap form (e k))) (o k h)

  set_fit : (fit : Held T → Bool) (xs : List (Slot T)) (n : ℕ) (s : Slot T) → n < length xs → (Fit fit (nodes xs n) → Fit fit (form s.node)) → (u : ℕ) → Fitting fit xs u → Fitting fit (set xs n s) u
  set_fit fit xs n s i f u o k h =
      elim (at_set xs n s k i)
      [ inl e ↦ subst (Fit fit) (sym (form_of _ _ e.1)) (f (subst (λ j. Fit fit (nodes xs j)) e.0 (o k h))) | inr e ↦ subst (Fit fit) (sym (form_of _ _ e.1)) (o k h) ]

  -- what becomes of the node k of the old filter: it is in the new one, and keeps its mark, or it is struck
  abbrev pub Fate : Placed (Held T) → List (Slot T) → List (Slot T) → ℕ → Type 0
  Fate new xs ys k = (In k new × ((at ys k).mark ≡ (at xs k).mark)) ⊎ ((In k new → ⊥) × ((at ys k).mark ≡ Struck))

  pub record Edit (Old : ℕ → Type 0) (new : Placed (Held T)) (xs ys : List (Slot T)) : Type 0 where
    pub long : length ys ≡ length xs
    pub there : (k : ℕ) → (Old k → ⊥) → at ys k ≡ at xs k
    pub held : Holds (nodes ys) new
    pub into : (k : ℕ) → In k new → Old k
    pub marks : (k : ℕ) → Old k → Fate new xs ys k
    pub order : (u : ℕ) → Ordered xs u → Ordered ys u
    pub fit : (fit : Held T → Bool) → Fair fit → (u : ℕ) → Fitting fit xs u → Fitting fit ys u

  -- one node by another
  leaf_edit : (xs : List (Slot T)) (n : ℕ) (v : Node T) (q : Placed (Held T)) → n < length xs → Below (form v) n → ((fit : Held T → Bool) → Fair fit → Fit fit (nodes xs n) → Fit fit (form v)) → ((f : ℕ → Form (Held T)) → f n ≡ form v → Holds f q) → ((k : ℕ) → In k q → k ≡ n) → ((k : ℕ) → k ≡ n → In k q) → Edit (λ k. k ≡ n) q xs (set xs n (slot v (at xs n).mark))
  leaf_edit xs n v q i low turns holds out back =
      let s = slot v (at xs n).mark in
      record {
        long = length-set xs n s;
        there = λ k h. set_there xs n k s h;
        held = holds (nodes (set xs n s)) (form_of _ _ (set_here xs n s i));
        into = out;
        marks = λ k e. inl (back k e, subst (λ j. (at (set xs n s) j).mark ≡ (at xs j).mark) (sym e) (mark_of _ _ (set_here xs n s i)));
        order = set_order xs n s i low;
        fit = λ fit fair. set_fit fit xs n s i (turns fit fair);
      }

  -- both inputs of a node n turned, one after the other
  record Pair (n : ℕ) (a a' b b' : Placed (Held T)) (xs zs : List (Slot T)) : Type 0 where
    inside : n < length zs
    long : length zs ≡ length xs
    node : at zs n ≡ at xs n
    not_a : In n a → ⊥
    not_b : In n b → ⊥
    apart : Apart a b
    in_a : (k : ℕ) → In k a' → In k a
    in_b : (k : ℕ) → In k b' → In k b
    held_a : Holds (nodes zs) a'
    held_b : Holds (nodes zs) b'
    there : (k : ℕ) → (In k a → ⊥) → (In k b → ⊥) → at zs k ≡ at xs k
    fate_a : (k : ℕ) → In k a → Fate a' xs zs k
    fate_b : (k : ℕ) → In k b → Fate b' xs zs k
    order : (u : ℕ) → Ordered xs u → Ordered zs u
    fit : (fit : Held T → Bool) → Fair fit → (u : ℕ) → Fitting fit xs u → Fitting fit zs u
    fits_b : (k : ℕ) → In k b → k < length zs
    fits_a : (k : ℕ) → In k a → k < length zs
    low_a : (k : ℕ) → In k a → k < n
    low_b : (k : ℕ) → In k b → k < n

  swapped : {n : ℕ} {a a' b b' : Placed (Held T)} {xs zs : List (Slot T)} → Pair n a a' b b' xs zs → Pair n b b' a a' xs zs
  swapped p = record {
    inside = p.inside;
    long = p.long;
    node = p.node;
    not_a = p.not_b;
    not_b = p.not_a;
    apart = λ k i j. p.apart k j i;
    in_a = p.in_b;
    in_b = p.in_a;
    held_a = p.held_b;
    held_b = p.held_a;
    there = λ k i j. p.there k j i;
    fate_a = p.fate_b;
    fate_b = p.fate_a;
    order = p.order;
    fit = p.fit;
    fits_b = p.fits_a;
    fits_a = p.fits_b;
    low_a = p.low_b;
    low_b = p.low_a;
  }

  abbrev Olds : ℕ → Placed (Held T) → Placed (Held T) → ℕ → Type 0
  Olds n a b k = (k ≡ n) ⊎ (In k a ⊎ In k b)

  moved : (q : Placed (Held T)) (xs ys zs : List (Slot T)) (k : ℕ) → at zs k ≡ at ys k → Fate q xs ys k → Fate q xs zs k
  moved q xs ys zs k e f = elim f [ inl h ↦ inl (h.0, mark_of _ _ e ∙ h.1) | inr h ↦ inr (h.0, mark_of _ _ e ∙ h.1) ]

  paired : (n : ℕ) (a a' b b' : Placed (Held T)) (xs ys zs : List (Slot T)) → Edit (λ k. In k a) a' xs ys → Edit (λ k. In k b) b' ys zs → Apart a b → Sound a → Sound b → root a < n → root b < n → n < length xs → Pair n a a' b b' xs zs
  paired n a a' b b' xs ys zs e d ap' sa sb ha hb i =
      let la : (k : ℕ) → In k a → k < n = λ k j. let m = in_le a sa k j in omega arith in
      let lb : (k : ℕ) → In k b → k < n = λ k j. let m = in_le b sb k j in omega arith in
      let z : length zs ≡ length xs = d.long ∙ e.long in
      let na : In n a → ⊥ = λ j. let m = la n j in omega arith in
      let nb : In n b → ⊥ = λ j. let m = lb n j in omega arith in
      record {
        inside = omega arith;
        long = z;
        node = d.there n nb ∙ e.there n na;
        not_a = na;
        not_b = nb;
        apart = ap';
        in_a = e.into;
        in_b = d.into;
        held_a = frame (nodes ys) (nodes zs) a' (λ k j. form_of _ _ (d.there k (λ m. ap' k (e.into k j) m))) e.held;
        held_b = d.held;
        there = λ k u v. d.there k v ∙ e.there k u;
        fate_a = λ k j. moved a' xs ys zs k (d.there k (λ m. ap' k j m)) (e.marks k j);
        fate_b = λ k j. elim (d.marks k j) [ inl h ↦ inl (h.0, h.1 ∙ mark_of _ _ (e.there k (λ m. ap' k m j))) | inr h ↦ inr h ];
        order = λ u o. d.order u (e.order u o);
        fit = λ fit fair u o. d.fit fit fair u (e.fit fit fair u o);
        fits_a = λ k j. let m = la k j in omega arith;
        fits_b = λ k j. let m = lb k j in omega arith;
        low_a = la;
        low_b = lb;
      }

  -- the node becomes a join of both
  to_join : (n : ℕ) (a a' b b' : Placed (Held T)) (xs zs : List (Slot T)) (v : Node T) (m : Mark) (q : Placed (Held T)) → Pair n a a' b b' xs zs → m ≡ (at xs n).mark → Below (form v) n → ((fit : Held T → Bool) → Fit fit (form v)) → ((f : ℕ → Form (Held T)) → f n ≡ form v → Holds f a' → Holds f b' → Holds f q) → ((k : ℕ) → In k q → Olds n a' b' k) → ((k : ℕ) → Olds n a' b' k → In k q) → Edit (Olds n a b) q xs (set zs n (slot v m))
  to_join n a a' b b' xs zs v m q p em low any holds out back =
      let s = slot v m in
      let ws = set zs n s in
      let off : (k : ℕ) → (k < n) → at ws k ≡ at zs k = λ k h. set_there zs n k s (λ e. omega arith) in
      record {
        long = length-set zs n s ∙ p.long;
        there = λ k h. set_there zs n k s (λ e. h (inl e)) ∙ p.there k (λ i. h (inr (inl i))) (λ i. h (inr (inr i)));
        held = holds (nodes ws) (form_of _ _ (set_here zs n s p.inside)) (frame (nodes zs) (nodes ws) a' (λ k i. form_of _ _ (off k (p.low_a k (p.in_a k i)))) p.held_a) (frame (nodes zs) (nodes ws) b' (λ k i. form_of _ _ (off k (p.low_b k (p.in_b k i)))) p.held_b);
        into = λ k i. elim (out k i) [ inl e ↦ inl e | inr (inl j) ↦ inr (inl (p.in_a k j)) | inr (inr j) ↦ inr (inr (p.in_b k j)) ];
        marks = λ k o. elim o [
          | inl e ↦ inl (back k (inl e), subst (λ j. (at ws j).mark ≡ (at xs j).mark) (sym e) (mark_of _ _ (set_here zs n s p.inside) ∙ em))
          | inr (inl i) ↦ elim (p.fate_a k i) [
            | inl h ↦ inl (back k (inr (inl h.0)), mark_of _ _ (off k (p.low_a k i)) ∙ h.1)
            | inr h ↦ inr (λ j. elim (out k j) [ inl e ↦ let l = p.low_a k i in omega arith | inr (inl x) ↦ h.0 x | inr (inr x) ↦ p.apart k i (p.in_b k x) ], mark_of _ _ (off k (p.low_a k i)) ∙ h.1)
          ]
          | inr (inr i) ↦ elim (p.fate_b k i) [
            | inl h ↦ inl (back k (inr (inr h.0)), mark_of _ _ (off k (p.low_b k i)) ∙ h.1)
            | inr h ↦ inr (λ j. elim (out k j) [ inl e ↦ let l = p.low_b k i in omega arith | inr (inl x) ↦ p.apart k (p.in_a k x) i | inr (inr x) ↦ h.0 x ], mark_of _ _ (off k (p.low_b k i)) ∙ h.1)
          ]
        ];
        order = λ u o. set_order zs n s p.inside low u (p.order u o);
        fit = λ fit fair u o. set_fit fit zs n s p.inside (λ h. any fit) u (p.fit fit fair u o);
      }

  -- the node is struck, and one side whole; the other stays
  to_side : (n : ℕ) (a a' b b' : Placed (Held T)) (xs zs : List (Slot T)) → Pair n a a' b b' xs zs → Edit (Olds n a b) a' xs (struck b' (marked n Struck zs))
  to_side n a a' b b' xs zs p =
      let ms = marked n Struck zs in
      let ws = struck b' ms in
      let same : (k : ℕ) → (at ws k).node ≡ (at zs k).node = λ k. struck_nodes b' ms k ∙ marked_nodes zs n Struck k in
      let off : (k : ℕ) → (k ≡ n → ⊥) → (In k b → ⊥) → at ws k ≡ at zs k = λ k h j. struck_there b' ms k (λ i. j (p.in_b k i)) ∙ set_there zs n k (slot (at zs n).node Struck) h in
      let far : (k : ℕ) → In k a → at ws k ≡ at zs k = λ k i. off k (λ e. let l = p.low_a k i in omega arith) (λ j. p.apart k i j) in
      let el = marked_length zs n Struck in
      record {
        long = struck_length b' ms ∙ el ∙ p.long;
        there = λ k h. off k (λ e. h (inl e)) (λ i. h (inr (inr i))) ∙ p.there k (λ i. h (inr (inl i))) (λ i. h (inr (inr i)));
        held = nodes_held zs ws same a' p.held_a;
        into = λ k i. inr (inl (p.in_a k i));
        marks = λ k o. elim o [
          | inl e ↦ inr (λ j. let l = p.low_a k (p.in_a k j) in omega arith, struck_stays b' ms k (cut_here zs n k e (let i = p.inside in omega arith)))
          | inr (inl i) ↦ moved a' xs zs ws k (far k i) (p.fate_a k i)
          | inr (inr i) ↦ inr (λ j. p.apart k (p.in_a k j) i, elim (p.fate_b k i) [ inl h ↦ struck_here b' ms k h.0 (let f = p.fits_b k i in omega arith) | inr h ↦ struck_stays b' ms k (cut_stays zs n k h.1) ])
        ];
        order = λ u o. nodes_order zs ws same u (p.order u o);
        fit = λ fit fair u o. nodes_fit zs ws same fit u (p.fit fit fair u o);
      }

  turn_olds : (n : ℕ) (a b q : Placed (Held T)) (xs ys : List (Slot T)) → Edit (Olds n b a) q xs ys → Edit (Olds n a b) q xs ys
  turn_olds n a b q xs ys e =
      let to : (k : ℕ) → Olds n a b k → Olds n b a k = λ k o. elim o [ inl x ↦ inl x | inr (inl x) ↦ inr (inr x) | inr (inr x) ↦ inr (inl x) ] in
      let back : (k : ℕ) → Olds n b a k → Olds n a b k = λ k o. elim o [ inl x ↦ inl x | inr (inl x) ↦ inr (inr x) | inr (inr x) ↦ inr (inl x) ] in
      record {
        long = e.long;
        there = λ k h. e.there k (λ o. h (back k o));
        held = e.held;
        into = λ k i. back k (e.into k i);
        marks = λ k o. e.marks k (to k o);
        order = e.order;
        fit = e.fit;
      }

  root_low : (a a' : Placed (Held T)) (n : ℕ) → ((k : ℕ) → In k a → k < n) → ((k : ℕ) → In k a' → In k a) → root a' < n
  root_low a a' n low into = low (root a') (into (root a') (root_in a'))

  join_edit : (c : Connective) (n : ℕ) (a a' b b' : Placed (Held T)) (xs zs : List (Slot T)) (m : Mark) → Pair n a a' b b' xs zs → m ≡ (at xs n).mark → Edit (Olds n a b) (join_at c n a' b') xs (set zs n (slot (join c (root a') (root b')) m))
  join_edit C.And n a a' b b' xs zs m p em = to_join n a a' b b' xs zs (And (root a') (root b')) m (and_node_at n a' b') p em (root_low a a' n p.low_a p.in_a, root_low b b' n p.low_b p.in_b) (λ fit. tt) (λ f e h i. (e, h, i)) (λ k i. i) (λ k i. i)
  join_edit C.Or n a a' b b' xs zs m p em = to_join n a a' b b' xs zs (Or (root a') (root b')) m (or_node_at n a' b') p em (root_low a a' n p.low_a p.in_a, root_low b b' n p.low_b p.in_b) (λ fit. tt) (λ f e h i. (e, h, i)) (λ k i. i) (λ k i. i)

  fold_by : (k : Keep) (c : Connective) (n : ℕ) (a a' b b' : Placed (Held T)) (xs zs : List (Slot T)) → Pair n a a' b b' xs zs → Edit (Olds n a b) (picked k a' b' (join_at c n a' b')) xs (picked k (struck b' (marked n Struck zs)) (struck a' (marked n Struck zs)) (set zs n (slot (join c (root a') (root b')) (at zs n).mark)))
  fold_by First c n a a' b b' xs zs p = to_side n a a' b b' xs zs p
  fold_by Second c n a a' b b' xs zs p = turn_olds n a b b' xs (struck a' (marked n Struck zs)) (to_side n b b' a a' xs zs (swapped p))
  fold_by Both c n a a' b b' xs zs p = join_edit c n a a' b b' xs zs (at zs n).mark p (mark_of _ _ p.node)

  fold_edit : (folds : Bool) (c : Connective) (n : ℕ) (a a' b b' : Placed (Held T)) (xs zs : List (Slot T)) → Pair n a a' b b' xs zs → Edit (Olds n a b) (joined folds c n a' b') xs (folding folds c n a' b' zs)
  fold_edit folds c n a a' b b' xs zs p = fold_by (side_if folds c (constant_of (head a')) (constant_of (head b'))) c n a a' b b' xs zs p

-- the joins of the filters' book, by the side that they keep
abbrev told : Option Bool → Maybe Bool
told None = none
told (Some b) = some b

module _ {X : Type 0} where
  plain_head : (p : Placed X) → plain (tree p) ≡ told (constant_of (head p))
  plain_head (constant_at n b) = refl
  plain_head (condition_at n c) = refl
  plain_head (and_node_at n l r) = refl
  plain_head (or_node_at n l r) = refl
  plain_head (not_node_at n p) = refl

  and_by : (p q : Option Bool) (n : ℕ) (l r : Placed X) → and_placed_by (told p) (told q) n l r ≡ picked (side C.And p q) l r (and_node_at n l r)
  and_by (Some false) q n l r = refl
  and_by (Some true) q n l r = refl
  and_by None (Some false) n l r = refl
  and_by None (Some true) n l r = refl
  and_by None None n l r = refl

  or_by : (p q : Option Bool) (n : ℕ) (l r : Placed X) → or_placed_by (told p) (told q) n l r ≡ picked (side C.Or p q) l r (or_node_at n l r)
  or_by (Some false) q n l r = refl
  or_by (Some true) q n l r = refl
  or_by None (Some false) n l r = refl
  or_by None (Some true) n l r = refl
  or_by None None n l r = refl

  pub and_joined : (folds : Bool) (n : ℕ) (l r : Placed X) → and_placed folds n l r ≡ joined folds C.And n l r
  and_joined false n l r = refl
  and_joined true n l r = ap₂ (λ p q. and_placed_by p q n l r) (plain_head l) (plain_head r) ∙ and_by (constant_of (head l)) (constant_of (head r)) n l r

  pub or_joined : (folds : Bool) (n : ℕ) (l r : Placed X) → or_placed folds n l r ≡ joined folds C.Or n l r
  or_joined false n l r = refl
  or_joined true n l r = ap₂ (λ p q. or_placed_by p q n l r) (plain_head l) (plain_head r) ∙ or_by (constant_of (head l)) (constant_of (head r)) n l r

module _ {T : Type 0} where
  constant_form : (b : Bool) → form {T = T} (constant b) ≡ always b
  constant_form true = refl
  constant_form false = refl

  constant_low : (b : Bool) (n : ℕ) (v : Node T) → v ≡ constant b → Below (form v) n
  constant_low b n v e = subst (λ x. Below x n) (sym (ap form e ∙ constant_form b)) tt

  constant_fit : (fit : Held T → Bool) (b : Bool) → Fit fit (form (constant b))
  constant_fit fit true = tt
  constant_fit fit false = tt

  pub holding_form : (c : Held T) → form (holding c) ≡ test c
  holding_form (unary o t) = refl
  holding_form (binary o t l) = refl
  holding_form (among o t r) = refl

  pub negation_edit : (p : Placed (Held T)) (xs : List (Slot T)) → Sound p → Holds (nodes xs) p → root p < length xs → Edit (λ k. In k p) (negated_placed opposite p) xs (negation p xs)
  negation_edit (constant_at n b) xs s h i = leaf_edit xs n (constant (not b)) (constant_at n (not b)) i (constant_low (not b) n (constant (not b)) refl) (λ fit fair h. constant_fit fit (not b)) (λ f e. e ∙ constant_form (not b)) (λ k j. j) (λ k j. j)
  negation_edit (condition_at n c) xs s h i = leaf_edit xs n (holding (opposite c)) (condition_at n (opposite c)) i (subst (λ x. Below x n) (sym (holding_form (opposite c))) tt) (λ fit fair f. subst (Fit fit) (sym (holding_form (opposite c))) (fair c (subst (Fit fit) h f))) (λ f e. e ∙ holding_form (opposite c)) (λ k j. j) (λ k j. j)
  negation_edit (and_node_at n l r) xs s h i =
      let e = negation_edit l xs s.3 h.1 (let x = s.0 in omega arith) in
      let ys = negation l xs in
      let d = negation_edit r ys s.4 (frame (nodes xs) (nodes ys) r (λ k j. form_of _ _ (e.there k (λ m. s.2 k m j))) h.2) (let x = s.1 in let y = e.long in omega arith) in
      join_edit C.Or n l (negated_placed opposite l) r (negated_placed opposite r) xs (negation r ys) (at xs n).mark (paired n l (negated_placed opposite l) r (negated_placed opposite r) xs ys (negation r ys) e d s.2 s.3 s.4 s.0 s.1 i) refl
  negation_edit (or_node_at n l r) xs s h i =
      let e = negation_edit l xs s.3 h.1 (let x = s.0 in omega arith) in
      let ys = negation l xs in
      let d = negation_edit r ys s.4 (frame (nodes xs) (nodes ys) r (λ k j. form_of _ _ (e.there k (λ m. s.2 k m j))) h.2) (let x = s.1 in let y = e.long in omega arith) in
      join_edit C.And n l (negated_placed opposite l) r (negated_placed opposite r) xs (negation r ys) (at xs n).mark (paired n l (negated_placed opposite l) r (negated_placed opposite r) xs ys (negation r ys) e d s.2 s.3 s.4 s.0 s.1 i) refl
  negation_edit (not_node_at n p) xs s h i =
      let ms = marked n Struck xs in
      let low : (k : ℕ) → In k p → k < n = λ k j. let m = in_le p s.1 k j in let r = s.0 in omega arith in
      record {
        long = marked_length xs n Struck;
        there = λ k o. set_there xs n k (slot (at xs n).node Struck) (λ e. o (inl e));
        held = nodes_held xs ms (marked_nodes xs n Struck) p h.1;
        into = λ k j. inr j;
        marks = λ k o. elim o [
          | inl e ↦ inr (λ j. let l = low k j in omega arith, cut_here xs n k e (omega arith))
          | inr j ↦ inl (j, mark_of _ _ (set_there xs n k (slot (at xs n).node Struck) (λ e. let l = low k j in omega arith)))
        ];
        order = nodes_order xs ms (marked_nodes xs n Struck);
        fit = λ fit fair. nodes_fit xs ms (marked_nodes xs n Struck) fit;
      }

  pub rewriting_edit : (folds : Bool) (p : Placed (Held T)) (xs : List (Slot T)) → Sound p → Holds (nodes xs) p → root p < length xs → Edit (λ k. In k p) (rewritten_placed folds opposite p) xs (rewriting folds p xs)
  rewriting_edit folds (constant_at n b) xs s h i = record { long = refl; there = λ k o. refl; held = h; into = λ k j. j; marks = λ k j. inl (j, refl); order = λ u o. o; fit = λ fit fair u o. o }
  rewriting_edit folds (condition_at n c) xs s h i = record { long = refl; there = λ k o. refl; held = h; into = λ k j. j; marks = λ k j. inl (j, refl); order = λ u o. o; fit = λ fit fair u o. o }
  rewriting_edit folds (and_node_at n l r) xs s h i =
      let e = rewriting_edit folds l xs s.3 h.1 (let x = s.0 in omega arith) in
      let ys = rewriting folds l xs in
      let zs = rewriting folds r ys in
      let l' = rewritten_placed folds opposite l in
      let r' = rewritten_placed folds opposite r in
      let d = rewriting_edit folds r ys s.4 (frame (nodes xs) (nodes ys) r (λ k j. form_of _ _ (e.there k (λ m. s.2 k m j))) h.2) (let x = s.1 in let y = e.long in omega arith) in
      subst (λ q. Edit (Olds n l r) q xs (folding folds C.And n l' r' zs)) (sym (and_joined folds n l' r'))
      (fold_edit folds C.And n l l' r r' xs zs (paired n l l' r r' xs ys zs e d s.2 s.3 s.4 s.0 s.1 i))
  rewriting_edit folds (or_node_at n l r) xs s h i =
      let e = rewriting_edit folds l xs s.3 h.1 (let x = s.0 in omega arith) in
      let ys = rewriting folds l xs in
      let zs = rewriting folds r ys in
      let l' = rewritten_placed folds opposite l in
      let r' = rewritten_placed folds opposite r in
      let d = rewriting_edit folds r ys s.4 (frame (nodes xs) (nodes ys) r (λ k j. form_of _ _ (e.there k (λ m. s.2 k m j))) h.2) (let x = s.1 in let y = e.long in omega arith) in
      subst (λ q. Edit (Olds n l r) q xs (folding folds C.Or n l' r' zs)) (sym (or_joined folds n l' r'))
      (fold_edit folds C.Or n l l' r r' xs zs (paired n l l' r r' xs ys zs e d s.2 s.3 s.4 s.0 s.1 i))
  rewriting_edit folds (not_node_at n p) xs s h i =
      let e = rewriting_edit folds p xs s.1 h.1 (let x = s.0 in omega arith) in
      let ys = rewriting folds p xs in
      let ms = marked n Struck ys in
      let p' = rewritten_placed folds opposite p in
      let low : (k : ℕ) → In k p → k < n = λ k j. let m = in_le p s.1 k j in let r = s.0 in omega arith in
      let lm = marked_length ys n Struck in
      let ly = e.long in
      let fits : root p' < length ms = let l = low (root p') (e.into (root p') (root_in p')) in omega arith in
      let d = negation_edit p' ms (rewritten_sound folds opposite p s.1) (nodes_held ys ms (marked_nodes ys n Struck) p' e.held) fits in
      let off : (k : ℕ) → (k ≡ n → ⊥) → at ms k ≡ at ys k = λ k o. set_there ys n k (slot (at ys n).node Struck) o in
      record {
        long = d.long ∙ lm ∙ ly;
        there = λ k o. d.there k (λ j. o (inr (e.into k j))) ∙ off k (λ x. o (inl x)) ∙ e.there k (λ j. o (inr j));
        held = d.held;
        into = λ k j. inr (e.into k (d.into k j));
        marks = λ k o. elim o [
          | inl x ↦ inr (λ j. let l = low k (e.into k (d.into k j)) in omega arith, mark_of _ _ (d.there k (λ j. let l = low k (e.into k j) in omega arith)) ∙ cut_here ys n k x (omega arith))
          | inr j ↦ elim (e.marks k j) [
            | inl a ↦ elim (d.marks k a.0) [ inl b ↦ inl (b.0, b.1 ∙ mark_of _ _ (off k (λ x. let l = low k j in omega arith)) ∙ a.1) | inr b ↦ inr b ]
            | inr a ↦ inr (λ x. a.0 (d.into k x), mark_of _ _ (d.there k a.0) ∙ mark_of _ _ (off k (λ x. let l = low k j in omega arith)) ∙ a.1)
          ]
        ];
        order = λ u o. d.order u (nodes_order ys ms (marked_nodes ys n Struck) u (e.order u o));
        fit = λ fit fair u o. d.fit fit fair u (nodes_fit ys ms (marked_nodes ys n Struck) fit u (e.fit fit fair u o));
      }
