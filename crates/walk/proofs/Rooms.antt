-- A filter's nodes counted against the frames of a table.
use Rattle.std.proofs.Common.{◌≡◌, ℕ, suc, ◌+◌, ◌-◌, ◌<◌, ◌≤◌, true, false, leb, ◌⊎◌, List, [], ◌∷◌, length, get_or, sym, ap, subst, inl, inr, arith, le-leb}
use borrow.Author.Tests.{lt-leb}
use Rattle.filters.specs.Placed.{Placed, constant_at, condition_at, and_node_at, or_node_at, not_node_at}
use Rattle.nodes.specs.declared.slots.Node.TheVariants.{And, Or, Not}
use Rattle.nodes.specs.declared.slots.Slot.{Slot}
use Rattle.nodes.specs.Tables.{nodes, filter_at}
use Rattle.nodes.specs.Filters.{Whole}
use Rattle.nodes.proofs.Found.{at_both, at_either, at_other, two_and, two_or, one_not}
use Rattle.book.proofs.Edited.{read_node, Leaf, constant_leaf, condition_leaf}
use Rattle.walk.specs.declared.frames.Frame.{Frame}
use Rattle.walk.specs.declared.frames.Frame.TheVariants as F
use Rattle.walk.specs.Steps.{stacked, node_of}
use Rattle.walk.specs.Visits.{size}
use Rattle.walk.proofs.Stacks.{stacked_length}

pub some_size : {X : Type 0} (p : Placed X) → 0 < size p
some_size (constant_at n b) = omega arith
some_size (condition_at n c) = omega arith
some_size (and_node_at n l r) = omega arith
some_size (or_node_at n l r) = omega arith
some_size (not_node_at n p) = omega arith

module _ {T : Type 0} (xs : List (Slot T)) (n : ℕ) where
  -- the inputs of a node, and its filter's size by theirs
  record Split (l r : ℕ) : Type 0 where
    first : Whole xs l
    second : Whole xs r
    sized : size (filter_at xs n) ≡ suc (size (filter_at xs l) + size (filter_at xs r))

  split : (d : Slot T) {l r : ℕ} → Whole xs n → ((get_or xs n d).node ≡ And l r) ⊎ ((get_or xs n d).node ≡ Or l r) → Split l r
  split d w (inl e) =
      let i = read_node xs n d _ w.inside e in
      let two = two_and xs n _ _ i w in
      record { first = two.first; second = two.second; sized = ap size (at_both (nodes xs) n _ _ i two.left two.right) }
  split d w (inr e) =
      let i = read_node xs n d _ w.inside e in
      let two = two_or xs n _ _ i w in
      record { first = two.first; second = two.second; sized = ap size (at_either (nodes xs) n _ _ i two.left two.right) }

  leaf_sized : Leaf xs n → size (filter_at xs n) ≡ 1
  leaf_sized (constant_leaf b e) = ap size e
  leaf_sized (condition_leaf c e) = ap size e

module _ {A T : Type 0} (xs : List (Slot T)) where
  -- the nodes of the filters that wait to be counted
  abbrev pub pending : List (Frame A) → ℕ
  pending [] = 0
  pending (f ∷ fs) = size (filter_at xs (node_of f)) + pending fs

  abbrev pub Pending : List (Frame A) → Type 0
  Pending [] = Unit {0}
  Pending (f ∷ fs) = Whole xs (node_of f) × Pending fs

  -- what is left of a room, and of so many nodes, while they are counted: n frames of a table wait
  pub record Count (all room rest at : ℕ) (cells : List (Frame A)) (n : ℕ) : Type 0 where
    pub balance : rest + all ≡ room + (size (filter_at xs at) + pending (stacked cells n))
    pub frames : n + rest ≤ room
    pub held : length cells ≡ room
    pub whole : Whole xs at
    pub ready : Pending (stacked cells n)

module _ {A T : Type 0} {xs : List (Slot T)} {all room rest at n : ℕ} {cells : List (Frame A)} (c : Count xs all room rest at cells n) where
  pub pops_inside : n ≤ length cells
  pops_inside = let h = c.frames in let k = c.held in omega arith

  pub full : rest ≡ 0 → false ≡ leb all room
  full e = let b = c.balance in let s = some_size (filter_at xs at) in sym (lt-leb all room (omega arith))

  module _ (more : rest ≡ 0 → ⊥) where
    pub pushes_inside : n < length cells
    pushes_inside = let h = c.frames in let k = c.held in omega (arith, more)

    -- the node at i comes next, and fewer are left
    pub record Next (i : ℕ) (after : List (Frame A)) (k : ℕ) : Type 0 where
      pub count : Count xs all room (rest - 1) i after k
      pub less : size (filter_at xs i) + pending xs (stacked after k) < size (filter_at xs at) + pending xs (stacked cells n)

    pub left_next : (d : Slot T) {l r : ℕ} (after : List (Frame A)) (k : ℕ) → ((get_or xs at d).node ≡ And l r) ⊎ ((get_or xs at d).node ≡ Or l r) → stacked after k ≡ F.Not r ∷ stacked cells n → length after ≡ length cells → Next l after k
    left_next d {l} {r} after k j e h =
        let s = split xs at d c.whole j in
        let z = s.sized in
        let b = c.balance in
        let f = c.frames in
        let g = c.held in
        let p : pending xs (stacked after k) ≡ size (filter_at xs r) + pending xs (stacked cells n) = ap (pending xs) e in
        let u = ap length e in
        let v = stacked_length after k in
        let w = stacked_length cells n in
        record {
          count = record { balance = omega (arith, more); frames = omega (arith, more); held = omega arith; whole = s.first; ready = subst (Pending xs) (sym e) (s.second, c.ready) };
          less = omega arith;
        }

    pub input_next : (d : Slot T) {i : ℕ} → (get_or xs at d).node ≡ Not i → Next i cells n
    input_next d j =
        let i = read_node xs at d _ c.whole.inside j in
        let one = one_not xs at _ i c.whole in
        let z = ap size (at_other (nodes xs) at _ i one.under) in
        let b = c.balance in
        let f = c.frames in
        record {
          count = record { balance = omega (arith, more); frames = omega (arith, more); held = c.held; whole = one.whole; ready = c.ready };
          less = omega arith;
        }

    module _ (leaf : Leaf xs at) where
      pub waiting_next : (f : Frame A) (after : List (Frame A)) (k i : ℕ) → stacked cells n ≡ f ∷ stacked after k → length after ≡ length cells → i ≡ node_of f → Next i after k
      waiting_next f after k i e h j =
          let z = leaf_sized xs at leaf in
          let b = c.balance in
          let m = c.frames in
          let g = c.held in
          let y = ap (λ q. size (filter_at xs q)) j in
          let p : pending xs (stacked cells n) ≡ size (filter_at xs (node_of f)) + pending xs (stacked after k) = ap (pending xs) e in
          let u = ap length e in
          let v = stacked_length after k in
          let w = stacked_length cells n in
          let t = subst (Pending xs) e c.ready in
          record {
            count = record { balance = omega (arith, more); frames = omega (arith, more); held = omega arith; whole = subst (Whole xs) (sym j) t.0; ready = t.1 };
            less = omega arith;
          }

      pub nothing_waits : stacked cells n ≡ [] → true ≡ leb all room
      nothing_waits e =
          let z = leaf_sized xs at leaf in
          let b = c.balance in
          let p : pending xs (stacked cells n) ≡ 0 = ap (pending xs) e in
          sym (le-leb all room (omega (arith, more)))
