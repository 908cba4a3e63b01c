-- The law.
use Rattle.std.proofs.Common.{◌≡◌, ℕ, ◌+◌, ◌<◌, ◌≤◌, Bool, true, false, cond, ◌&&◌, leb, ◌⊎◌, List, [], ◌∷◌, map, length, take, set, Some, None, Ok, Err, Option, Result, sym, refl, ap, ◌∙◌, subst, ap₂, inl, inr, arith, le-ltb, eq-eqb, leb-true}
use mathlib.Core.Option.{Option as Maybe, some, none}
use Rattle.std.proofs.lemmas.Bool.{and_from}
use Rattle.std.specs.List.{list_all}
use Rattle.values.specs.declared.literals.Literal.{Literal}
use Rattle.values.specs.declared.refusals.Reason.TheVariants as R
use Rattle.values.specs.declared.refusals.Refused.{Refused}
use Rattle.values.specs.Contents.{text_inside, datum_of}
use Rattle.values.specs.Admission.{first_failing}
use Rattle.values.specs.Kept.{well_kept}
use Rattle.lists.specs.Keep.{kept, placed}
use Rattle.filters.specs.Trees.{Tree, constant as Constant, condition, Not as NotT, and, or, negated, rewritten, mapped, Each, NoNot, Lone}
use Rattle.filters.specs.Meanings.{walked}
use Rattle.filters.specs.Runs.{Call, lay, call_and, call_or, call_not, call_negate, call_rewrite, call_bind, Sheet, enter, take_out, Hand, from_one, from_two, step, Turn, after as after_run, paper, book}
use Rattle.filters.specs.Placed.{Form, always, test, other, both, either, Placed, constant_at, condition_at, and_node_at, or_node_at, not_node_at, root, tree, In, Apart, Sound, Holds, negated_placed, rewritten_placed}
use Rattle.filters.proofs.Placed.{root_in, frame, and_tree, or_tree, negated_tree, rewritten_tree, negated_sound, rewritten_sound}
use Rattle.filters.proofs.Shapes.{and_mapped, or_mapped, negated_mapped, rewritten_mapped, mapped_same, rewritten_no_not, rewritten_lone}
use Rattle.filters.proofs.Stands.{Linked, Keeps, linked}
use Rattle.filters.proofs.Worded.{worded}
use Rattle.nodes.specs.declared.slots.Mark.TheVariants.{Standing as Stands, Joined}
use Rattle.nodes.specs.declared.slots.Node.{Node}
use Rattle.nodes.specs.declared.slots.Node.TheVariants.{Not, Unary, Binary, Set}
use Rattle.nodes.specs.declared.slots.Run.{Run}
use Rattle.nodes.specs.declared.slots.Slot.{Slot}
use Rattle.nodes.specs.Operators.{is_unary, is_binary, is_set}
use Rattle.nodes.specs.Conditions.{unary, binary, among, opposite}
use Rattle.nodes.specs.Tables.{Held, slot, at, form, nodes, filter_at}
use Rattle.nodes.specs.Filters.{constant_of}
use Rattle.nodes.specs.Soundness.{fits, literals_in, is_standing, stands, literal_room, used_of}
use Rattle.nodes.proofs.Order.{Below, Fit, Fitting}
use Rattle.nodes.proofs.Found.{of_root, of_head}
use Rattle.nodes.proofs.Lowest.{passes}
use Rattle.nodes.proofs.Forest.{sheet, at_sheet}
use Rattle.book.specs.declared.edits.Connective.{Connective}
use Rattle.book.specs.declared.edits.Connective.TheVariants as C
use Rattle.book.specs.declared.edits.Keep.{Keep}
use Rattle.book.specs.declared.edits.Keep.TheVariants.{First, Second, Both}
use Rattle.book.specs.Equality.{same_literal}
use Rattle.book.specs.Edits.{marked, constant, struck, negation, rewriting, side, picked, join, join_at, joined}
use Rattle.book.specs.Calls.{Tables, Setting, Asked, lay_constant, lay_unary, lay_binary, lay_set, ask_and, ask_or, ask_not, ask_negate, ask_rewrite, After, after, tables_of, else, unless, at_place, barred, barred_one, barred_two, barred_leaf, full, crowded, outcome, Written, written, writing, storing, laid, roomy, laying, over, joining, constant_after, unary_after, binary_after, set_after, not_after, join_after, negate_after, rewrite_after, performed}
use Rattle.book.specs.Law.{Worded, told, answered, Ran, opened, called, bound}
use Rattle.book.proofs.Edited.{set_there, marked_nodes, marked_length, struck_nodes}
use Rattle.book.proofs.Turned.{Edit, at_set, form_of, mark_of, and_joined, or_joined, negation_edit}
use Rattle.book.proofs.Folded.{whole_edit, join_root}
use Rattle.book.proofs.Called.{Free, stands_free, free_whole, full_inside, full_few, else_none, unless_none, place_none, one, two}
use Rattle.ledger.specs.Law.{through, entered, content, Law}
use Rattle.ledger.proofs.Literals.{placed_length, none_fails, kept_every, used_is, fair, fits_more, content_more, in_new, read_new, read_one}
use Rattle.ledger.proofs.Grown.{in_dec, Step, Inv, laid_one, turned_one, joined_two}
use Rattle.ledger.proofs.Steps.{free_root, free_low, free_apart, free_inner, laid_step, edit_step, side_step, root_joined}

-- each condition of a filter whose nodes fit
each_held : {X : Type 0} (f : ℕ → Form X) (fit : X → Bool) (P : X → Type 0) → ((c : X) → fit c ≡ true → P c) → (p : Placed X) → Holds f p → ((k : ℕ) → In k p → Fit fit (f k)) → Each P (tree p)
each_held f fit P to (constant_at n b) h o = tt
each_held f fit P to (condition_at n c) h o = to c (subst (Fit fit) h (o n refl))
each_held f fit P to (and_node_at n l r) h o = (each_held f fit P to l h.1 (λ k i. o k (inr (inl i))), each_held f fit P to r h.2 (λ k i. o k (inr (inr i))))
each_held f fit P to (or_node_at n l r) h o = (each_held f fit P to l h.1 (λ k i. o k (inr (inl i))), each_held f fit P to r h.2 (λ k i. o k (inr (inr i))))
each_held f fit P to (not_node_at n p) h o = each_held f fit P to p h.1 (λ k i. o k (inr i))

constant_low : (T : Type 0) (k : Bool) (n : ℕ) → Below (form {T = T} (constant k)) n
constant_low T true n = tt
constant_low T false n = tt

constant_form : {T : Type 0} (k : Bool) → form {T = T} (constant k) ≡ always k
constant_form true = refl
constant_form false = refl

constant_fit : {T : Type 0} (fit : Held T → Bool) (k : Bool) → Fit fit (form (constant k))
constant_fit fit true = tt
constant_fit fit false = tt

fit_more : {X : Type 0} (f g : X → Bool) → ((c : X) → f c ≡ true → g c ≡ true) → (x : Form X) → Fit f x → Fit g x
fit_more f g to (always b) h = tt
fit_more f g to (test c) h = to c h
fit_more f g to (both l r) h = tt
fit_more f g to (either l r) h = tt
fit_more f g to (other i) h = tt

join-fit : {T : Type 0} (fit : Held T → Bool) (c : Connective) (l r : ℕ) → Fit fit (form (join c l r))
join-fit fit C.And l r = tt
join-fit fit C.Or l r = tt

module _ {T : Type 0} (s : Setting T) where
  abbrev W : Type 0
  W = Worded T

  abbrev hand : Hand W (Tree W)
  hand = book opposite

  abbrev rd : List Literal → Held T → W
  rd ls = content s.text ls

  abbrev view : List Literal → Placed (Held T) → Tree W
  view ls p = mapped (rd ls) (tree p)

  abbrev fit_of : List Literal → ℕ → Held T → Bool
  fit_of ls stored = fits s.within (length s.text) (used_of ls stored)

  rd_fair : (ls : List Literal) (c : Held T) → rd ls (opposite c) ≡ opposite (rd ls c)
  rd_fair ls (unary o t) = refl
  rd_fair ls (binary o t i) = refl
  rd_fair ls (among o t r) = refl

  -- what holds between a run and the tables
  record Good (b : Tables T) (sh : Sheet (Tree W)) : Type 0 where
    core : Inv (view b.literals) b.slots b.used sh
    fit : Fitting (fit_of b.literals b.stored) b.slots b.used
    room : b.stored ≤ literal_room b.literals

  abbrev Goal : Call W → Sheet (Tree W) → After T → Type 0
  Goal c sh x = Good x.tables (step hand c (answered x.answer) sh)

  by_outcome : (c : Call W) (sh : Sheet (Tree W)) (b : Tables T) (o : Option Refused) (done : After T) → Good b sh → (None ≡ o → Goal c sh done) → Goal c sh (outcome b o done)
  by_outcome c sh b (Some e) done i f = i
  by_outcome c sh b None done i f = f refl

  by_roomy : (c : Call W) (sh : Sheet (Tree W)) (b : Tables T) (o : Option Refused) (w : Written T) → Good b sh → (None ≡ o → Goal c sh (writing b w)) → Goal c sh (writing b (roomy b.slots b.used o w))
  by_roomy c sh b (Some e) w i f = i
  by_roomy c sh b None w i f = f refl

  -- a node that fits, laid behind others
  set_fit : (fit : Held T → Bool) (xs zs : List (Slot T)) (used : ℕ) (v : Node T) → used < length zs → ((k : ℕ) → (at zs k).node ≡ (at xs k).node) → Fit fit (form v) → Fitting fit xs used → Fitting fit (set zs used (slot v Stands)) (used + 1)
  set_fit fit xs zs used v i same f o k h = elim (at_set zs used (slot v Stands) k i) [
    | inl e ↦ subst (Fit fit) (sym (form_of _ _ e.1)) f
    | inr e ↦ let ne = e.0 in subst (Fit fit) (sym (form_of _ _ e.1 ∙ ap form (same k))) (o k (omega (arith, ne, h)))
  ]

  nodes_fit : (fit : Held T → Bool) (xs ys : List (Slot T)) (used : ℕ) → ((k : ℕ) → (at ys k).node ≡ (at xs k).node) → Fitting fit xs used → Fitting fit ys used
  nodes_fit fit xs ys used same o k h = subst (Fit fit) (sym (ap form (same k))) (o k h)

  module _ (b : Tables T) (sh : Sheet (Tree W)) (good : Good b sh) where
    abbrev xs : List (Slot T)
    xs = b.slots

    abbrev used : ℕ
    used = b.used

    abbrev ls : List Literal
    ls = b.literals

    abbrev fit : Held T → Bool
    fit = fit_of ls b.stored

    -- a leaf
    leaf_good : (v : Node T) (new : Placed (Held T)) (x : Tree W) → None ≡ full xs used → ((k : ℕ) → In k new → k ≡ used) → ((k : ℕ) → k ≡ used → In k new) → root new ≡ used → Sound new → Below (form v) used → Fit fit (form v) → ((f : ℕ → Form (Held T)) → f used ≡ form v → Holds f new) → view ls new ≡ x → Good (tables_of (set xs used (slot v Stands)) (used + 1) ls b.stored) (enter used x sh)
    leaf_good v new x e out back er sound low fv holds et =
        let i = good.core in
        record {
          core = laid_one (view ls) xs (set xs used (slot v Stands)) used (used + 1) sh new x used i
              (laid_step xs used xs v (λ k. ⊥) new i.sane (full_inside xs used e) (full_few xs used e) refl (λ k. refl) (λ k h o. refl) (λ k o. absurd o) (λ k o. absurd o) (λ k j. inl (out k j)) (λ k o. elim o [ inl z ↦ back k z | inr z ↦ absurd z ]) er sound low (λ f d o. holds f d) (λ k. inr (λ z. z))) et (sym er);
          fit = set_fit fit xs xs used v (full_inside xs used e) (λ k. refl) fv good.fit;
          room = good.room;
        }

    constant_good : (k : Bool) → Goal (lay (Constant k)) sh (constant_after s b k)
    unfolding constant_after
    constant_good k =
        by_outcome (lay (Constant k)) sh b (barred s b) (writing b (laying xs used (constant k))) good (λ e.
        by_roomy (lay (Constant k)) sh b (full xs used) (laid xs used (constant k)) good (λ f.
        leaf_good (constant k) (constant_at used k) (Constant k) f (λ k j. j) (λ k j. j) refl tt (constant_low T k used) (constant_fit fit k) (λ g h. h ∙ constant_form k) refl))

    unary_good : (o : _) (t : T) → Goal (lay (condition (unary o t))) sh (unary_after s b o t)
    unfolding unary_after barred_leaf
    unary_good o t =
        by_outcome (lay (condition (unary o t))) sh b (barred_leaf s b (is_unary o) t []) (writing b (laying xs used (Unary o t))) good (λ e.
        let d = else_none (barred s b) _ e in
        let f = else_none (unless (is_unary o) R.OtherFamily 0) _ d.1 in
        let w = else_none (unless (s.within t) R.TextOutside 0) _ f.1 in
        by_roomy (lay (condition (unary o t))) sh b (full xs used) (laid xs used (Unary o t)) good (λ r.
        leaf_good (Unary o t) (condition_at used (unary o t)) (condition (unary o t)) r (λ k j. j) (λ k j. j) refl tt tt
        (and_from (is_unary o) (s.within t) (unless_none (is_unary o) R.OtherFamily 0 f.0) (unless_none (s.within t) R.TextOutside 0 w.0)) (λ g h. h) refl))

    -- literals stored
    module _ (new : List Literal) (fits_in : None ≡ crowded ls b.stored new) where
      roomed : b.stored + length new ≤ literal_room ls
      unfolding crowded
      roomed = leb-true (b.stored + length new) (literal_room ls) (unless_none (leb (b.stored + length new) (literal_room ls)) R.LiteralsDontFit 0 fits_in)

      low : b.stored ≤ length ls
      low = let z = good.room in omega arith

      inside : b.stored + length new ≤ length ls
      inside = let z = roomed in omega arith

      after_used : used_of (placed ls b.stored new) (b.stored + length new) ≡ take (b.stored + length new) (placed ls b.stored new)
      after_used = used_is (placed ls b.stored new) (b.stored + length new) (let z = placed_length ls new b.stored inside in let y = roomed in omega arith)

      before_used : used_of ls b.stored ≡ take b.stored ls
      before_used = used_is ls b.stored good.room

      abbrev fit' : Held T → Bool
      fit' = fit_of (placed ls b.stored new) (b.stored + length new)

      old_fit : (c : Held T) → fit c ≡ true → fits s.within (length s.text) (take b.stored ls) c ≡ true
      old_fit c h = subst (λ k. fits s.within (length s.text) k c ≡ true) before_used h

      more : (c : Held T) → fit c ≡ true → fit' c ≡ true
      more c h = subst (λ k. fits s.within (length s.text) k c ≡ true) (sym after_used) (fits_more s.within s.text ls new b.stored low inside c (old_fit c h))

      same_view : (n : ℕ) → through (view ls) (sheet xs used n) ≡ through (view (placed ls b.stored new)) (sheet xs used n)
      same_view n = by (stands xs used n) refl
        where
          by : (t : Bool) → stands xs used n ≡ t → through (view ls) (cond t (some (filter_at xs n)) none) ≡ through (view (placed ls b.stored new)) (cond t (some (filter_at xs n)) none)
          by true e =
              let f = stands_free xs used n good.core.sane e in
              let p = filter_at xs n in
              ap some (mapped_same (rd ls) (rd (placed ls b.stored new)) (tree p)
              (each_held (nodes xs) fit (λ c. rd ls c ≡ rd (placed ls b.stored new) c) (λ c h. content_more s.within s.text ls new b.stored low inside c (old_fit c h)) p (free_whole xs used n f).held (λ k i. good.fit k (free_low xs used n f k i))))
          by false e = refl

      store_good : Good (storing b new) sh
      store_good = record {
        core = record { sane = good.core.sane; trees = λ n. sym (same_view n) ∙ good.core.trees n };
        fit = λ k h. fit_more fit fit' more (nodes xs k) (good.fit k h);
        room = let z = placed_length ls new b.stored inside in let y = roomed in omega arith;
      }

      new_in : list_all (λ l. text_inside (length s.text) l.value) new ≡ true → literals_in (length s.text) (used_of (placed ls b.stored new) (b.stored + length new)) b.stored (length new) ≡ true
      new_in e = subst (λ k. literals_in (length s.text) k b.stored (length new) ≡ true) (sym after_used) (in_new s.within s.text ls new b.stored low inside e)

    -- what laying a condition asks
    leaf_asks : (family : Bool) (t : T) (gs : List Literal) → None ≡ barred_leaf s b family t gs → (family ≡ true) × (s.within t ≡ true) × (list_all (λ l. text_inside (length s.text) l.value) gs ≡ true)
    unfolding barred_leaf
    leaf_asks family t gs e =
        let d = else_none (barred s b) _ e in
        let f = else_none (unless family R.OtherFamily 0) _ d.1 in
        let w = else_none (unless (s.within t) R.TextOutside 0) _ f.1 in
        let g = else_none (at_place R.TextOutside (first_failing (λ l. text_inside (length s.text) l.value) 0 gs)) (at_place R.OtherStorage (first_failing well_kept 0 gs)) w.1 in
        (unless_none family R.OtherFamily 0 f.0, unless_none (s.within t) R.TextOutside 0 w.0, none_fails (λ l. text_inside (length s.text) l.value) gs 0 (place_none R.TextOutside (first_failing (λ l. text_inside (length s.text) l.value) 0 gs) g.0))

  module _ (b : Tables T) (sh : Sheet (Tree W)) (good : Good b sh) where
    binary_good : (o : _) (t : T) (l : Literal) → Goal (lay (condition (binary o t (datum_of s.text l)))) sh (binary_after s b o t l)
    unfolding binary_after
    binary_good o t l =
        let new = l ∷ [] in
        let x = condition (binary o t (datum_of s.text l)) in
        let p = barred_leaf s b (is_binary o) t new in
        let f = full b.slots b.used in
        let k = crowded b.literals b.stored new in
        by_outcome (lay x) sh b (else p (else f k)) (writing (storing b new) (laid b.slots b.used (Binary o t b.stored))) good (λ e.
        let d = else_none p (else f k) e in
        let h = else_none f k d.1 in
        let a = leaf_asks b sh good (is_binary o) t new d.0 in
        leaf_good (storing b new) sh (store_good b sh good new h.1) (Binary o t b.stored) (condition_at b.used (binary o t b.stored)) x h.0 (λ k j. j) (λ k j. j) refl tt tt
        (and_from (is_binary o) _ a.0 (and_from (s.within t) _ a.1 (new_in b sh good new h.1 a.2))) (λ g j. j)
        (ap (λ y. condition (binary o t y)) (read_one s.text b.literals l b.stored (low b sh good new h.1))))

    set_good : (o : _) (t : T) (gs : List Literal) → Goal (lay (condition (among o t (map (datum_of s.text) (kept (same_literal s.text) gs))))) sh (set_after s b o t gs)
    unfolding set_after
    set_good o t gs =
        let new = kept (same_literal s.text) gs in
        let x = condition (among o t (map (datum_of s.text) new)) in
        let p = barred_leaf s b (is_set o) t gs in
        let f = full b.slots b.used in
        let k = crowded b.literals b.stored new in
        let r : Run = record { start = b.stored; count = length new } in
        by_outcome (lay x) sh b (else p (else f k)) (writing (storing b new) (laid b.slots b.used (Set o t r))) good (λ e.
        let d = else_none p (else f k) e in
        let h = else_none f k d.1 in
        let a = leaf_asks b sh good (is_set o) t gs d.0 in
        leaf_good (storing b new) sh (store_good b sh good new h.1) (Set o t r) (condition_at b.used (among o t r)) x h.0 (λ k j. j) (λ k j. j) refl tt tt
        (and_from (is_set o) _ a.0 (and_from (s.within t) _ a.1 (new_in b sh good new h.1 (kept_every (λ l. text_inside (length s.text) l.value) (same_literal s.text) gs a.2)))) (λ g j. j)
        (ap (λ y. condition (among o t y)) (read_new s.within s.text b.literals new b.stored (low b sh good new h.1) (inside b sh good new h.1))))

    not_good : (a : ℕ) → Goal (call_not a) sh (not_after s b a)
    unfolding not_after
    not_good a =
        let xs = b.slots in
        let used = b.used in
        by_outcome (call_not a) sh b (barred_one s b a) (writing b (over xs used a)) good (λ e.
        by_roomy (call_not a) sh b (full xs used) (laid (marked a Joined xs) used (Not a)) good (λ ef.
        let fr = (one s b a e).free in
        let p = filter_at xs a in
        let ra = free_root xs used a fr in
        let la = fr.low in
        let rl : root p < used = omega arith in
        let i = good.core in
        record {
          core = turned_one (view b.literals) xs (set (marked a Joined xs) used (slot (Not a) Stands)) used (used + 1) sh a used (not_node_at used p) NotT i fr
              (laid_step xs used (marked a Joined xs) (Not a) (λ k. In k p) (not_node_at used p) i.sane (full_inside xs used ef) (full_few xs used ef) (marked_length xs a Joined) (marked_nodes xs a Joined)
              (λ k h o. set_there xs a k (slot (at xs a).node Joined) (λ z. o (subst (λ j. In j p) (ra ∙ sym z) (root_in p))))
              (root_joined xs used a fr) (free_low xs used a fr) (λ k i. i) (λ k i. i) refl (rl, (free_whole xs used a fr).sound) la
              (λ f g o. (g ∙ ap other (sym ra), frame (nodes xs) f p o (free_whole xs used a fr).held)) (λ k. in_dec k p))
              refl refl;
          fit = set_fit (fit_of b.literals b.stored) xs (marked a Joined xs) used (Not a) (let z = marked_length xs a Joined in let y = full_inside xs used ef in omega arith) (marked_nodes xs a Joined) tt good.fit;
          room = good.room;
        }))

    edit_good : (a : ℕ) (f : Tree W → Tree W) → Free b.slots b.used a → (new : Placed (Held T)) (zs : List (Slot T)) → Edit (λ k. In k (filter_at b.slots a)) new b.slots zs → Sound new → view b.literals new ≡ f (view b.literals (filter_at b.slots a)) → Good (tables_of (marked (root new) Stands zs) b.used b.literals b.stored) (from_one f a (root new) sh (sh a))
    edit_good a f fr new zs e sound et = record {
      core = turned_one (view b.literals) b.slots (marked (root new) Stands zs) b.used b.used sh a (root new) new f good.core fr (edit_step b.slots b.used a fr new zs e sound) et refl;
      fit = nodes_fit (fit_of b.literals b.stored) zs (marked (root new) Stands zs) b.used (marked_nodes zs (root new) Stands) (e.fit (fit_of b.literals b.stored) (fair s.within (length s.text) (used_of b.literals b.stored)) b.used good.fit);
      room = good.room;
    }

    negate_good : (a : ℕ) → Goal (call_negate a) sh (negate_after s b a)
    unfolding negate_after
    negate_good a =
        let xs = b.slots in
        let p = filter_at xs a in
        let n = root (negated_placed opposite p) in
        by_outcome (call_negate a) sh b (barred_one s b a) (writing b (written (marked n Stands (negation p xs)) b.used (Ok n))) good (λ e.
        let fr = (one s b a e).free in
        let w = free_whole xs b.used a fr in
        edit_good a (negated opposite) fr (negated_placed opposite p) (negation p xs) (negation_edit p xs w.sound w.held (subst (λ k. k < length xs) (sym (of_root (nodes xs) a)) w.inside)) (negated_sound opposite p w.sound)
        (ap (mapped (rd b.literals)) (negated_tree opposite p) ∙ negated_mapped (rd b.literals) opposite opposite (rd_fair b.literals) (tree p)))

    rewrite_good : (a : ℕ) → Goal (call_rewrite a) sh (rewrite_after true s b a)
    unfolding rewrite_after
    rewrite_good a =
        let xs = b.slots in
        let p = filter_at xs a in
        let n = root (rewritten_placed true opposite p) in
        by_outcome (call_rewrite a) sh b (barred_one s b a) (writing b (written (marked n Stands (rewriting true p xs)) b.used (Ok n))) good (λ e.
        let fr = (one s b a e).free in
        let w = free_whole xs b.used a fr in
        edit_good a (rewritten true opposite) fr (rewritten_placed true opposite p) (rewriting true p xs) (whole_edit true xs a w) (rewritten_sound true opposite p w.sound)
        (ap (mapped (rd b.literals)) (rewritten_tree true opposite p) ∙ rewritten_mapped (rd b.literals) opposite opposite (rd_fair b.literals) true (tree p)))

    -- a join laid over both filters
    module _ (a a' : ℕ) (fa : Free b.slots b.used a) (fb : Free b.slots b.used a') (ne : a ≡ a' → ⊥) (e : None ≡ full b.slots b.used) where
      abbrev ys : List (Slot T)
      ys = b.slots

      abbrev us : ℕ
      us = b.used

      abbrev p₁ : Placed (Held T)
      p₁ = filter_at ys a

      abbrev q₁ : Placed (Held T)
      q₁ = filter_at ys a'

      abbrev zs : List (Slot T)
      zs = marked a' Joined (marked a Joined ys)

      abbrev Old : ℕ → Type 0
      Old k = In k p₁ ⊎ In k q₁

      joins : (k : ℕ) → Old k → (at zs k).mark ≡ Joined
      joins k (inl i) =
          mark_of _ _ (set_there (marked a Joined ys) a' k (slot (at (marked a Joined ys) a').node Joined) (λ z. free_apart ys us a a' fa fb ne k i (subst (λ j. In j q₁) (free_root ys us a' fb ∙ sym z) (root_in q₁))))
          ∙ root_joined ys us a fa k i
      joins k (inr i) = elim (at_set (marked a Joined ys) a' (slot (at (marked a Joined ys) a').node Joined) k (let l = marked_length ys a Joined in let w = (free_whole ys us a' fb).inside in omega arith)) [
        | inl z ↦ mark_of _ _ z.1
        | inr z ↦ mark_of _ _ z.1 ∙ mark_of _ _ (set_there ys a k (slot (at ys a).node Joined) (λ y. free_apart ys us a a' fa fb ne k (subst (λ j. In j p₁) (free_root ys us a fa ∙ sym y) (root_in p₁)) i)) ∙ free_inner ys us a' fb k i z.0
      ]

      same_nodes : (k : ℕ) → (at zs k).node ≡ (at ys k).node
      same_nodes k = marked_nodes (marked a Joined ys) a' Joined k ∙ marked_nodes ys a Joined k

      same_length : length zs ≡ length ys
      same_length = marked_length (marked a Joined ys) a' Joined ∙ marked_length ys a Joined

      laid_over : (v : Node T) (new : Placed (Held T)) → ((k : ℕ) → In k new → (k ≡ us) ⊎ Old k) → ((k : ℕ) → (k ≡ us) ⊎ Old k → In k new) → root new ≡ us → Sound new → Below (form v) us → ((f : ℕ → Form (Held T)) → f us ≡ form v → Holds f p₁ → Holds f q₁ → Holds f new) → Step ys (set zs us (slot v Stands)) us (us + 1) Old new
      laid_over v new out back er sound low holds =
          laid_step ys us zs v Old new good.core.sane (full_inside ys us e) (full_few ys us e) same_length same_nodes
          (λ k h o. set_there (marked a Joined ys) a' k (slot (at (marked a Joined ys) a').node Joined) (λ z. o (inr (subst (λ j. In j q₁) (free_root ys us a' fb ∙ sym z) (root_in q₁)))) ∙ set_there ys a k (slot (at ys a).node Joined) (λ z. o (inl (subst (λ j. In j p₁) (free_root ys us a fa ∙ sym z) (root_in p₁)))))
          joins (λ k o. elim o [ inl i ↦ free_low ys us a fa k i | inr i ↦ free_low ys us a' fb k i ]) out back er sound low
          (λ f g o. holds f g (frame (nodes ys) f p₁ (λ k i. o k (inl i)) (free_whole ys us a fa).held) (frame (nodes ys) f q₁ (λ k i. o k (inr i)) (free_whole ys us a' fb).held))
          (λ k. elim (in_dec k p₁) [ inl i ↦ inl (inl i) | inr i ↦ elim (in_dec k q₁) [ inl j ↦ inl (inr j) | inr j ↦ inr (λ z. elim z [ inl x ↦ i x | inr x ↦ j x ]) ] ])

      sounds : (root p₁ < us) × (root q₁ < us) × Apart p₁ q₁ × Sound p₁ × Sound q₁
      sounds = (let x = free_root ys us a fa in let y = fa.low in omega arith, let x = free_root ys us a' fb in let y = fb.low in omega arith, free_apart ys us a a' fa fb ne, (free_whole ys us a fa).sound, (free_whole ys us a' fb).sound)

      join_step : (c : Connective) → Step ys (set zs us (slot (join c a a') Stands)) us (us + 1) Old (join_at c us p₁ q₁)
      join_step C.And = laid_over (join C.And a a') (and_node_at us p₁ q₁) (λ k i. i) (λ k i. i) refl sounds (fa.low, fb.low) (λ f g h i. (g ∙ ap₂ both (sym (free_root ys us a fa)) (sym (free_root ys us a' fb)), h, i))
      join_step C.Or = laid_over (join C.Or a a') (or_node_at us p₁ q₁) (λ k i. i) (λ k i. i) refl sounds (fa.low, fb.low) (λ f g h i. (g ∙ ap₂ either (sym (free_root ys us a fa)) (sym (free_root ys us a' fb)), h, i))

    join_good : (c : Connective) (ask : Call W) (a a' : ℕ) (f : Tree W → Tree W → Tree W) → ((n : ℕ) → step hand ask (some n) sh ≡ from_two f a a' n sh (sh a) (sh a')) → view b.literals (joined true c b.used (filter_at b.slots a) (filter_at b.slots a')) ≡ f (view b.literals (filter_at b.slots a)) (view b.literals (filter_at b.slots a')) → Goal ask sh (join_after c s b a a')
    unfolding join_after
    join_good c ask a a' f hc ht =
        let xs = b.slots in
        let used = b.used in
        let p = filter_at xs a in
        let q = filter_at xs a' in
        let keep = side c (constant_of (nodes xs a)) (constant_of (nodes xs a')) in
        by_outcome ask sh b (barred_two s b a a') (writing b (joining c xs used a a')) good (λ e.
        let w = two s b a a' e in
        by_side w.left w.right w.differ keep (ap₂ (λ x y. view b.literals (picked (side c x y) p q (join_at c used p q))) (sym (of_head (nodes xs) a)) (sym (of_head (nodes xs) a')) ∙ ht))
      where
        by_side : Free b.slots b.used a → Free b.slots b.used a' → (a ≡ a' → ⊥) → (k : Keep) → view b.literals (picked k (filter_at b.slots a) (filter_at b.slots a') (join_at c b.used (filter_at b.slots a) (filter_at b.slots a'))) ≡ f (view b.literals (filter_at b.slots a)) (view b.literals (filter_at b.slots a'))
            → Goal ask sh (writing b (picked k (written (struck (filter_at b.slots a') b.slots) b.used (Ok a)) (written (struck (filter_at b.slots a) b.slots) b.used (Ok a')) (roomy b.slots b.used (full b.slots b.used) (laid (marked a' Joined (marked a Joined b.slots)) b.used (join c a a')))))
        by_side fa fb ne First t =
            let xs = b.slots in
            let used = b.used in
            subst (Good (tables_of (struck (filter_at xs a') xs) used b.literals b.stored)) (sym (hc a))
            (record {
              core = joined_two (view b.literals) xs (struck (filter_at xs a') xs) used used sh a a' a (filter_at xs a) f good.core fa fb (side_step xs used a a' fa fb ne (λ k. In k (filter_at xs a) ⊎ In k (filter_at xs a')) (λ k o. o) (λ k o. o)) t (sym (free_root xs used a fa));
              fit = nodes_fit (fit_of b.literals b.stored) xs (struck (filter_at xs a') xs) used (struck_nodes (filter_at xs a') xs) good.fit;
              room = good.room;
            })
        by_side fa fb ne Second t =
            let xs = b.slots in
            let used = b.used in
            subst (Good (tables_of (struck (filter_at xs a) xs) used b.literals b.stored)) (sym (hc a'))
            (record {
              core = joined_two (view b.literals) xs (struck (filter_at xs a) xs) used used sh a a' a' (filter_at xs a') f good.core fa fb (side_step xs used a' a fb fa (λ z. ne (sym z)) (λ k. In k (filter_at xs a) ⊎ In k (filter_at xs a')) (λ k o. elim o [ inl x ↦ inr x | inr x ↦ inl x ]) (λ k o. elim o [ inl x ↦ inr x | inr x ↦ inl x ])) t (sym (free_root xs used a' fb));
              fit = nodes_fit (fit_of b.literals b.stored) xs (struck (filter_at xs a) xs) used (struck_nodes (filter_at xs a) xs) good.fit;
              room = good.room;
            })
        by_side fa fb ne Both t =
            let xs = b.slots in
            let used = b.used in
            by_roomy ask sh b (full xs used) (laid (marked a' Joined (marked a Joined xs)) used (join c a a')) good (λ e.
            subst (Good (tables_of (set (marked a' Joined (marked a Joined xs)) used (slot (join c a a') Stands)) (used + 1) b.literals b.stored)) (sym (hc used))
            (record {
              core = joined_two (view b.literals) xs (set (marked a' Joined (marked a Joined xs)) used (slot (join c a a') Stands)) used (used + 1) sh a a' used (join_at c used (filter_at xs a) (filter_at xs a')) f good.core fa fb (join_step a a' fa fb ne e c) t (sym (join_root c used (filter_at xs a) (filter_at xs a')));
              fit = set_fit (fit_of b.literals b.stored) xs (marked a' Joined (marked a Joined xs)) used (join c a a') (let z = same_length a a' fa fb ne e in let y = full_inside xs used e in omega arith) (same_nodes a a' fa fb ne e) (join-fit (fit_of b.literals b.stored) c a a') good.fit;
              room = good.room;
            }))

    performed_good : (asked : Asked T) → Goal (told s.text asked) sh (performed s asked b)
    performed_good (lay_constant k) = constant_good b sh good k
    performed_good (lay_unary o t) = unary_good b sh good o t
    performed_good (lay_binary o t l) = binary_good o t l
    performed_good (lay_set o t gs) = set_good o t gs
    performed_good (ask_and a a') =
        let p = filter_at b.slots a in
        let q = filter_at b.slots a' in
        join_good C.And (call_and a a') a a' and (λ n. refl) (ap (view b.literals) (sym (and_joined true b.used p q)) ∙ ap (mapped (rd b.literals)) (and_tree true b.used p q) ∙ and_mapped (rd b.literals) (tree p) (tree q))
    performed_good (ask_or a a') =
        let p = filter_at b.slots a in
        let q = filter_at b.slots a' in
        join_good C.Or (call_or a a') a a' or (λ n. refl) (ap (view b.literals) (sym (or_joined true b.used p q)) ∙ ap (mapped (rd b.literals)) (or_tree true b.used p q) ∙ or_mapped (rd b.literals) (tree p) (tree q))
    performed_good (ask_not a) = not_good a
    performed_good (ask_negate a) = negate_good a
    performed_good (ask_rewrite a) = rewrite_good a

  ran_good : {run : List (Turn W)} {b : Tables T} → Ran s run b → Good b (after_run hand run)
  ran_good (opened b eu es) = record {
    core = record {
      sane = record { fits = omega arith; few = omega arith; order = λ k h. absurd (omega arith); count = λ k h. absurd (omega arith) };
      trees = λ n. ap (λ t. through (view b.literals) (cond (t && is_standing (at b.slots n).mark) (some (filter_at b.slots n)) none)) (le-ltb n b.used (omega arith));
    };
    fit = λ k h. absurd (omega arith);
    room = omega arith;
  }
  ran_good (called {ts = ts} {b = b} asked b' answer ran e) = subst (Goal (told s.text asked) (after_run hand ts)) (sym e) (performed_good b (after_run hand ts) (ran_good ran) asked)
  ran_good (bound a none ran) = ran_good ran
  ran_good (bound a (some n) ran) = ran_good ran

  entered_shown : {Y Z : Type 0} (f : Y → Z) (t : Bool) (p : Y) → t ≡ entered (through f (cond t (some p) none))
  entered_shown f true p = refl
  entered_shown f false p = refl

  shown : {Y Z : Type 0} (f : Y → Z) (t : Bool) (p : Y) (x : Z) → through f (cond t (some p) none) ≡ some x → x ≡ f p
  shown f true p x e = cc
  shown f false p x e = let z : ◌≡◌ {A = ℕ} 0 1 = cc in absurd (omega arith)

-- what was told of a rewriting was asked as one
rewrote : {T : Type 0} (text : List ℕ) (asked : Asked T) (a : ℕ) → told text asked ≡ call_rewrite a → asked ≡ ask_rewrite a
rewrote text (lay_constant k) a e = let z : ◌≡◌ {A = ℕ} 0 1 = cc in absurd (omega arith)
rewrote text (lay_unary o t) a e = let z : ◌≡◌ {A = ℕ} 0 1 = cc in absurd (omega arith)
rewrote text (lay_binary o t l) a e = let z : ◌≡◌ {A = ℕ} 0 1 = cc in absurd (omega arith)
rewrote text (lay_set o t ls) a e = let z : ◌≡◌ {A = ℕ} 0 1 = cc in absurd (omega arith)
rewrote text (ask_and l r) a e = let z : ◌≡◌ {A = ℕ} 0 1 = cc in absurd (omega arith)
rewrote text (ask_or l r) a e = let z : ◌≡◌ {A = ℕ} 0 1 = cc in absurd (omega arith)
rewrote text (ask_not c) a e = let z : ◌≡◌ {A = ℕ} 0 1 = cc in absurd (omega arith)
rewrote text (ask_negate c) a e = let z : ◌≡◌ {A = ℕ} 0 1 = cc in absurd (omega arith)
rewrote text (ask_rewrite c) a e = let z : c ≡ a = cc in ap ask_rewrite z

-- a call that is granted had no reason against it
granted-none : {T : Type 0} (b b' : Tables T) (o : Option Refused) (done : After T) (answer : Result ℕ Refused) (n : ℕ) → answered answer ≡ some n → after b' answer ≡ outcome b o done → None ≡ o
granted-none b b' None done answer n e d = refl
granted-none b b' (Some r) done answer n e d =
    let f : answer ≡ Err r = ap (λ (x : After _). x.answer) d in
    let h : ◌≡◌ {A = Maybe ℕ} none (some n) = sym (ap answered f) ∙ e in
    let z : ◌≡◌ {A = ℕ} 0 1 = cc in absurd (omega arith)

module _ {T : Type 0} (s : Setting T) where
  freed : (b b' : Tables T) (answer : Result ℕ Refused) (a n : ℕ) → answered answer ≡ some n → after b' answer ≡ rewrite_after true s b a → Free b.slots b.used a
  unfolding rewrite_after
  freed b b' answer a n ea d = (one s b a (granted-none b b' (barred_one s b a) _ answer n ea d)).free

  -- the filter that was rewritten stood
  stood_before : {run : List (Turn (Worded T))} {b : Tables T} → Ran s run b → (a n : ℕ) (ts : List (Turn (Worded T))) → run ≡ (record { call = call_rewrite a; answered = some n } ∷ ts) → (u : Tree (Worded T)) × (after_run (book opposite) ts a ≡ some u)
  stood_before (opened b eu es) a n ts e = let z : ◌≡◌ {A = ℕ} 0 1 = cc in absurd (omega arith)
  stood_before (bound c r ran) a n ts e =
      let h : ◌≡◌ {A = Turn (Worded T)} (record { call = call_bind c; answered = r }) (record { call = call_rewrite a; answered = some n }) = cc in
      let k : call_bind c ≡ call_rewrite a = ap (λ (t : Turn (Worded T)). t.call) h in
      let z : ◌≡◌ {A = ℕ} 0 1 = cc in absurd (omega arith)
  stood_before (called {ts = us} {b = b} asked b' answer ran d) a n ts e =
      let h : ◌≡◌ {A = Turn (Worded T)} (record { call = told s.text asked; answered = answered answer }) (record { call = call_rewrite a; answered = some n }) = cc in
      let et : us ≡ ts = cc in
      let ek = rewrote s.text asked a (ap (λ (t : Turn (Worded T)). t.call) h) in
      let fr = freed b b' answer a n (ap (λ (t : Turn (Worded T)). t.answered) h) (d ∙ ap (λ x. performed s x b) ek) in
      let i = (ran_good s ran).core in
      let es = at_sheet b.slots b.used fr.sane a fr.low fr.mark in
      let u = view s b.literals (filter_at b.slots a) in
      (u, subst (λ ws. after_run (book opposite) ws a ≡ some u) et (sym (i.trees a) ∙ ap (through (view s b.literals)) es))

trivial : {C X Y : Type 0} (h : Hand C X) (k : Hand C Y) → Keeps (λ x y. Unit {0}) h k
trivial h k = record { of_lay = λ t. tt; of_and = λ x x' y y' g g'. tt; of_or = λ x x' y y' g g'. tt; of_not = λ x y g. tt; of_negate = λ x y g. tt; of_rewrite = λ x y g. tt }

linked-entered : {X Y : Type 0} (o : Maybe X) (q : Maybe Y) → Linked (λ x y. Unit {0}) o q → entered o ≡ entered q
linked-entered none none l = refl
linked-entered none (some y) l = absurd l
linked-entered (some x) none l = absurd l
linked-entered (some x) (some y) l = refl

pub law : {A F T : Type 0} (s : Setting T) (b : Tables T) → Law A F s b
law {A} {F} {T} s b run ran =
    let i = ran_good s ran in
    let xs = b.slots in
    let used = b.used in
    let f = view s b.literals in
    let stood : (n : ℕ) → stands xs used n ≡ entered (after_run paper run n) = λ n.
    entered_shown s f (stands xs used n) (filter_at xs n) ∙ ap entered (i.core.trees n) ∙ linked-entered (after_run (book opposite) run n) (after_run paper run n) (linked (λ x y. Unit {0}) (book opposite) paper (trivial (book opposite) paper) run n) in
    record {
      sound = passes s.within (length s.text) b.literals b.stored xs used i.core.sane i.fit i.room;
      standing = stood;
      whole = λ n wording e. free_whole xs used n (stands_free xs used n i.core.sane (stood n ∙ ap entered e));
      follows = λ n wording e. sym (i.core.trees n) ∙ ap (λ t. through f (cond t (some (filter_at xs n)) none)) (stood n ∙ ap entered e);
      answers = λ n wording e m even faultless.
          let r = worded opposite m even run n wording e faultless in
          let t = shown s f (stands xs used n) (filter_at xs n) r.0 (i.core.trees n ∙ r.1) in
          (r.2, r.3, subst (λ x. walked m x ≡ Ok r.2) t r.4);
      rewritten = λ a n ts e.
          let r = stood_before s ran a n ts e in
          let o = after_run (book opposite) ts in
          let g = rewritten true opposite r.0 in
          let d : after_run (book opposite) run n ≡ some g = ap (λ w. after_run (book opposite) w n) e ∙ ap (λ x. from_one (rewritten true opposite) a n o x n) r.1 ∙ ap (λ x. cond x (some g) (take_out a o n)) (eq-eqb n n refl) in
          let t = shown s f (stands xs used n) (filter_at xs n) g (i.core.trees n ∙ d) in
          (subst NoNot t (rewritten_no_not opposite true r.0), subst Lone t (rewritten_lone opposite r.0));
    }
