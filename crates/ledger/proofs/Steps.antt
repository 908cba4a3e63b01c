-- Each granted call is one step.
use Rattle.std.proofs.Common.{◌≡◌, ℕ, ◌+◌, ◌<◌, ◌⊎◌, List, length, set, sym, ap, ◌∙◌, subst, inl, inr, arith, length-set}
use mathlib.Core.Option.{some}
use Rattle.filters.specs.Placed.{Form, Placed, root, In, Apart, Sound, Holds}
use Rattle.filters.proofs.Placed.{root_in, in_le}
use Rattle.nodes.specs.declared.slots.Mark.TheVariants.{Standing as Stands, Joined}
use Rattle.nodes.specs.declared.slots.Node.{Node}
use Rattle.nodes.specs.declared.slots.Slot.{Slot}
use Rattle.nodes.specs.Tables.{Held, slot, at, form, nodes, filter_at}
use Rattle.book.specs.Edits.{marked, struck}
use Rattle.nodes.proofs.Found.{of_root, inside_low}
use Rattle.book.proofs.Edited.{set_here, set_there, marked_nodes, marked_length, struck_nodes, struck_length, struck_there}
use Rattle.nodes.proofs.Order.{Below}
use Rattle.book.proofs.Turned.{at_set, mark_of, form_of, nodes_order, nodes_held, struck_here, Edit}
use Rattle.nodes.proofs.Lowest.{Sane}
use Rattle.nodes.proofs.Forest.{sheet, forest, at_sheet, apart_all}
use Rattle.book.proofs.Called.{Free, free_whole}
use Rattle.ledger.proofs.Grown.{in_dec, Step}

module _ {T : Type 0} (xs : List (Slot T)) (used : ℕ) where
  -- facts of a filter that stands
  module _ (a : ℕ) (f : Free xs used a) where
    at_a : sheet xs used a ≡ some (filter_at xs a)
    at_a = at_sheet xs used f.sane a f.low f.mark

    pub free_root : root (filter_at xs a) ≡ a
    free_root = of_root (nodes xs) a

    pub free_low : (k : ℕ) → In k (filter_at xs a) → k < used
    free_low k i = (forest xs used f.sane).firm.below a (filter_at xs a) at_a k i

    pub free_inner : (k : ℕ) → In k (filter_at xs a) → (k ≡ a → ⊥) → (at xs k).mark ≡ Joined
    free_inner k i ne = (forest xs used f.sane).inner a (filter_at xs a) at_a k i ne

  pub free_apart : (a b : ℕ) → Free xs used a → Free xs used b → (a ≡ b → ⊥) → Apart (filter_at xs a) (filter_at xs b)
  free_apart a b f g ne = apart_all xs used f.sane a b f.low g.low f.mark g.mark ne

  -- a node is laid over filters that become its inputs
  pub laid_step : (zs : List (Slot T)) (v : Node T) (Old : ℕ → Type 0) (new : Placed (Held T)) → Sane xs used → used < length xs → used < 256
      → length zs ≡ length xs → ((k : ℕ) → (at zs k).node ≡ (at xs k).node) → ((k : ℕ) → k < used → (Old k → ⊥) → at zs k ≡ at xs k) → ((k : ℕ) → Old k → (at zs k).mark ≡ Joined) → ((k : ℕ) → Old k → k < used)
      → ((k : ℕ) → In k new → (k ≡ used) ⊎ Old k) → ((k : ℕ) → (k ≡ used) ⊎ Old k → In k new) → root new ≡ used → Sound new → Below (form v) used
      → ((f : ℕ → Form (Held T)) → f used ≡ form v → ((k : ℕ) → Old k → f k ≡ nodes xs k) → Holds f new) → ((k : ℕ) → Old k ⊎ (Old k → ⊥))
      → Step xs (set zs used (slot v Stands)) used (used + 1) Old new
  laid_step zs v Old new sane room few long same rest joins olds out back er sound low holds dec =
      let s = slot v Stands in
      let ys = set zs used s in
      let ly = length-set zs used s in
      let inz : used < length zs = omega arith in
      let off : (k : ℕ) → (k ≡ used → ⊥) → at ys k ≡ at zs k = λ k ne. set_there zs used k s ne in
      let old_ne : (k : ℕ) → Old k → k ≡ used → ⊥ = λ k o e. let l = olds k o in omega arith in
      record {
        grows = omega arith;
        fits = omega arith;
        few = omega arith;
        order = λ k h. elim (at_set zs used s k inz) [
          | inl e ↦ subst (λ x. Below x k) (sym (form_of _ _ e.1)) (subst (λ j. Below (form v) j) (sym e.0) low)
          | inr e ↦ let ne = e.0 in subst (λ x. Below x k) (sym (form_of _ _ e.1 ∙ ap form (same k))) (sane.order k (omega (arith, ne, h)))
        ];
        sound = sound;
        held = holds (nodes ys) (form_of _ _ (set_here zs used s inz)) (λ k o. form_of _ _ (off k (old_ne k o)) ∙ ap form (same k));
        from = λ k i. elim (out k i) [ inl e ↦ inr (omega arith) | inr o ↦ inl o ];
        low = λ k i. elim (out k i) [ inl e ↦ omega arith | inr o ↦ let l = olds k o in omega arith ];
        rest = λ k h o. off k (λ e. omega arith) ∙ rest k h o;
        top = ap (λ j. (at ys j).mark) er ∙ mark_of _ _ (set_here zs used s inz);
        inner = λ k i ne. elim (out k i) [ inl e ↦ absurd (ne (e ∙ sym er)) | inr o ↦ mark_of _ _ (off k (old_ne k o)) ∙ joins k o ];
        out = λ k o n. absurd (n (back k (inr o)));
        fresh = λ k h l. back k (inl (omega arith));
        dec = dec;
      }

  -- a filter is turned in place
  pub edit_step : (a : ℕ) → Free xs used a → (new : Placed (Held T)) (zs : List (Slot T)) → Edit (λ k. In k (filter_at xs a)) new xs zs → Sound new → Step xs (marked (root new) Stands zs) used used (λ k. In k (filter_at xs a)) new
  edit_step a f new zs e sound =
      let p = filter_at xs a in
      let r = root new in
      let ys = marked r Stands zs in
      let sane = f.sane in
      let lz = e.long in
      let lm = marked_length zs r Stands in
      let fit = sane.fits in
      let rp : In r p = e.into r (root_in new) in
      let rl : r < length zs = let l = free_low a f r rp in omega arith in
      let off : (k : ℕ) → (k ≡ r → ⊥) → at ys k ≡ at zs k = λ k ne. set_there zs r k (slot (at zs r).node Stands) ne in
      record {
        grows = omega arith;
        fits = omega arith;
        few = sane.few;
        order = nodes_order zs ys (marked_nodes zs r Stands) used (e.order used sane.order);
        sound = sound;
        held = nodes_held zs ys (marked_nodes zs r Stands) new e.held;
        from = λ k i. inl (e.into k i);
        low = λ k i. free_low a f k (e.into k i);
        rest = λ k h o. off k (λ d. o (subst (λ j. In j p) (sym d) rp)) ∙ e.there k o;
        top = mark_of _ _ (set_here zs r (slot (at zs r).node Stands) rl);
        inner = λ k i ne. mark_of _ _ (off k ne) ∙ elim (e.marks k (e.into k i)) [
          | inl h ↦ h.1 ∙ free_inner a f k (e.into k i) (λ d.
              let x = in_le new sound k i in
              let y = in_le p (free_whole xs used a f).sound r rp in
              let z = free_root a f in ne (omega arith))
          | inr h ↦ absurd (h.0 i)
        ];
        out = λ k o n. elim (e.marks k o) [ inl h ↦ absurd (n h.0) | inr h ↦ mark_of _ _ (off k (λ d. n (subst (λ j. In j new) (sym d) (root_in new)))) ∙ h.1 ];
        fresh = λ k h l. absurd (omega arith);
        dec = λ k. in_dec k p;
      }

  -- one filter is kept, and another struck whole
  pub side_step : (a b : ℕ) → Free xs used a → Free xs used b → (a ≡ b → ⊥) → (Old : ℕ → Type 0) → ((k : ℕ) → Old k → In k (filter_at xs a) ⊎ In k (filter_at xs b)) → ((k : ℕ) → In k (filter_at xs a) ⊎ In k (filter_at xs b) → Old k) → Step xs (struck (filter_at xs b) xs) used used Old (filter_at xs a)
  side_step a b f g ne Old out back =
      let p = filter_at xs a in
      let q = filter_at xs b in
      let ys = struck q xs in
      let sane = f.sane in
      let ly = struck_length q xs in
      let fit = sane.fits in
      let apart = free_apart a b f g ne in
      let stay : (k : ℕ) → In k p → at ys k ≡ at xs k = λ k i. struck_there q xs k (λ j. apart k i j) in
      record {
        grows = omega arith;
        fits = omega arith;
        few = sane.few;
        order = nodes_order xs ys (struck_nodes q xs) used sane.order;
        sound = (free_whole xs used a f).sound;
        held = nodes_held xs ys (struck_nodes q xs) p (free_whole xs used a f).held;
        from = λ k i. inl (back k (inl i));
        low = free_low a f;
        rest = λ k h o. struck_there q xs k (λ j. o (back k (inr j)));
        top = mark_of _ _ (stay (root p) (root_in p)) ∙ ap (λ j. (at xs j).mark) (free_root a f) ∙ f.mark;
        inner = λ k i n. mark_of _ _ (stay k i) ∙ free_inner a f k i (λ d. n (d ∙ sym (free_root a f)));
        out = λ k o n. elim (out k o) [ inl i ↦ absurd (n i) | inr i ↦ struck_here q xs k i (inside_low xs b (free_whole xs used b g) k i) ];
        fresh = λ k h l. absurd (omega arith);
        dec = λ k. elim (in_dec k p) [ inl i ↦ inl (back k (inl i)) | inr i ↦ elim (in_dec k q) [ inl j ↦ inl (back k (inr j)) | inr j ↦ inr (λ o. elim (out k o) [ inl x ↦ i x | inr x ↦ j x ]) ] ];
      }

  -- the root joined, every node of the filter is
  pub root_joined : (a : ℕ) → Free xs used a → (k : ℕ) → In k (filter_at xs a) → (at (marked a Joined xs) k).mark ≡ Joined
  root_joined a f k i = elim (at_set xs a (slot (at xs a).node Joined) k (free_whole xs used a f).inside) [ inl e ↦ mark_of _ _ e.1 | inr e ↦ mark_of _ _ e.1 ∙ free_inner a f k i e.0 ]
