-- The calls, as the code goes.
use Rattle.std.proofs.Common.{◌≡◌, ℕ, ◌<◌, ◌≤◌, Bool, true, false, not, eqb, ltb, List, length, get_or, Some, None, Ok, Err, Option, Result, sym, refl, ap, ◌∙◌, subst, ap₂, arith, ltb-true}
use Rattle.std.proofs.lemmas.List.{get_or_default}
use borrow.Author.Tests.{eqb-false, not-true}
use Rattle.values.specs.declared.literals.Literal.{Literal}
use Rattle.values.specs.declared.refusals.Reason.{Reason}
use Rattle.values.specs.declared.refusals.Reason.TheVariants as R
use Rattle.values.specs.declared.refusals.Refused.{Refused}
use Rattle.values.specs.Admission.{first_failing, admitted}
use Rattle.values.specs.Contents.{text_inside}
use Rattle.values.specs.Kept.{well_kept}
use Rattle.filters.specs.Placed.{root, negated_placed, rewritten_placed}
use Rattle.filters.proofs.Placed.{root_in, negated_in, rewritten_in}
use Rattle.nodes.specs.declared.slots.Mark.{Mark}
use Rattle.nodes.specs.declared.slots.Mark.TheVariants.{Standing, Joined, Struck}
use Rattle.nodes.specs.declared.slots.Node.{Node}
use Rattle.nodes.specs.declared.slots.Node.TheVariants.{Not}
use Rattle.nodes.specs.declared.slots.Run.{Run}
use Rattle.nodes.specs.declared.slots.Slot.{Slot}
use Rattle.nodes.specs.declared.term.Extent.{Extent}
use Rattle.nodes.specs.Conditions.{opposite}
use Rattle.nodes.specs.Tables.{nowhere, at, form, filter_at}
use Rattle.nodes.specs.Filters.{Whole, constant_of}
use Rattle.nodes.specs.Soundness.{fits, unsound, is_standing, stands, node_room, literal_room, used_of}
use Rattle.nodes.proofs.Order.{Fitting, both_true}
use Rattle.nodes.proofs.Found.{inside_low}
use Rattle.nodes.proofs.Lowest.{Sane, passed}
use Rattle.nodes.proofs.Forest.{Alive, whole}
use Rattle.book.specs.declared.edits.Connective.{Connective}
use Rattle.book.specs.declared.edits.Keep.{Keep}
use Rattle.book.specs.declared.edits.Keep.TheVariants.{Both}
use Rattle.book.specs.Edits.{marked, struck, negation, rewriting, side, picked, join}
use Rattle.book.specs.Calls.{Tables, Setting, Asked, After, after, performed, else, unless, at_place, granted, barred, no_filter, barred_one, barred_two, full, no_room, cells, outcome, Written, written, writing, storing, laid, roomy, not_after, join_after}
use Rattle.book.specs.Ways.{tables, setting, Does}
use Rattle.book.specs.Law.{called}
use Rattle.book.specs.declared.book.Book.{Book}
use Rattle.book.proofs.Edited.{negation_length}
use Rattle.book.proofs.Folded.{whole_edit}

-- ---- reasons, one after another

pub else_none : (p q : Option Refused) → None ≡ else p q → (None ≡ p) × (None ≡ q)
else_none (Some e) q h = let z : ◌≡◌ {A = ℕ} 0 1 = cc in absurd (omega arith)
else_none None q h = (refl, h)

pub unless_none : (b : Bool) (r : Reason) (n : ℕ) → None ≡ unless b r n → b ≡ true
unless_none true r n h = refl
unless_none false r n h = let z : ◌≡◌ {A = ℕ} 0 1 = cc in absurd (omega arith)

pub place_none : (r : Reason) (o : Option ℕ) → None ≡ at_place r o → o ≡ None
place_none r (Some n) h = let z : ◌≡◌ {A = ℕ} 0 1 = cc in absurd (omega arith)
place_none r None h = refl

-- what is answered by a check whose reasons come one after another
pub granted_first : {X Y : Type 0} (p q : Option Refused) (x : X) (y : Y) (e : Refused) → Err e ≡ granted p x → Err e ≡ granted (else p q) y
granted_first (Some d) q x y e h = ap (λ i. Err i) (let z : e ≡ d = cc in z)
granted_first None q x y e h = let z : ◌≡◌ {A = ℕ} 0 1 = cc in absurd (omega arith)

pub granted_none : {X : Type 0} (o : Option Refused) (x y : X) → Ok y ≡ granted o x → None ≡ o
granted_none (Some e) x y h = let z : ◌≡◌ {A = ℕ} 0 1 = cc in absurd (omega arith)
granted_none None x y h = refl

pub granted_next : {X Y : Type 0} (p q : Option Refused) (x y : X) (z : Y) (r : Result Y Refused) → Ok y ≡ granted p x → r ≡ granted q z → r ≡ granted (else p q) z
granted_next p q x y z r h i = i ∙ ap (λ o. granted (else o q) z) (granted_none p x y h)

pub granted_some : {X : Type 0} (o : Option Refused) (x : X) (e : Refused) → Err e ≡ granted o x → Some e ≡ o
granted_some (Some d) x e h = ap (λ i. Some i) (let z : e ≡ d = cc in z)
granted_some None x e h = let z : ◌≡◌ {A = ℕ} 0 1 = cc in absurd (omega arith)

pub granted_value : {X : Type 0} (o : Option Refused) (x y : X) → Ok y ≡ granted o x → y ≡ x
granted_value (Some e) x y h = let z : ◌≡◌ {A = ℕ} 0 1 = cc in absurd (omega arith)
granted_value None x y h = cc

-- admission, as reasons one after another
pub admitted_is : (n : ℕ) (ls : List Literal) → admitted n ls ≡ granted (else (at_place R.TextOutside (first_failing (λ l. text_inside n l.value) 0 ls)) (at_place R.OtherStorage (first_failing well_kept 0 ls))) tt
admitted_is n ls = by (first_failing (λ l. text_inside n l.value) 0 ls) (first_failing well_kept 0 ls)
  where
    by : (o q : Option ℕ) → Rattle.values.specs.Admission.unless o R.TextOutside (Rattle.values.specs.Admission.unless q R.OtherStorage (Ok tt)) ≡ granted (else (at_place R.TextOutside o) (at_place R.OtherStorage q)) tt
    by (Some i) q = refl
    by None (Some i) = refl
    by None None = refl

pub ruleset reasons = (granted_first, granted_next, admitted_is)

module _ {T : Type 0} where
  -- a call refused, and one granted
  pub refuses : {X : Type 0} (b : Tables T) (o : Option Refused) (x : X) (e : Refused) (done : After T) → Err e ≡ granted o x → after b (Err e) ≡ outcome b o done
  refuses b o x e done h = ap (λ p. outcome b p done) (granted_some o x e h)

  pub grants : {X : Type 0} (b : Tables T) (o : Option Refused) (x y : X) (a done : After T) → Ok y ≡ granted o x → a ≡ done → a ≡ outcome b o done
  grants b o x y a done h i = i ∙ ap (λ p. outcome b p done) (granted_none o x y h)

  pub does : (within : Extent → T → Bool) (asked : Asked T) (b b' : Book T) (r : Result ℕ Refused) → after (tables b') r ≡ performed (setting within b) asked (tables b) → setting within b' ≡ setting within b → Does within asked b b' r
  does within asked b b' r e s = record { answers_and_leaves_what_the_rules_give = e; reads_the_same_text = s; is_a_step_of_every_run = λ ts ran. called asked _ _ ran e }

  pub roomy_no : (xs : List (Slot T)) (used : ℕ) (w : Written T) (e : Refused) → Some e ≡ full xs used → written xs used (Err e) ≡ roomy xs used (full xs used) w
  roomy_no xs used w e h = ap (λ o. roomy xs used o w) h

  pub roomy_yes : (xs : List (Slot T)) (used : ℕ) (w v : Written T) → None ≡ full xs used → v ≡ w → v ≡ roomy xs used (full xs used) w
  roomy_yes xs used w v h i = i ∙ ap (λ o. roomy xs used o w) h

pub stands_mark : (m : Mark) → is_standing m ≡ true → m ≡ Standing
stands_mark Standing e = refl
stands_mark Joined e = let z : ◌≡◌ {A = ℕ} 0 1 = cc in absurd (omega arith)
stands_mark Struck e = let z : ◌≡◌ {A = ℕ} 0 1 = cc in absurd (omega arith)

module _ {T : Type 0} (xs : List (Slot T)) (used : ℕ) where
  -- a filter that a call may take
  pub record Free (a : ℕ) : Type 0 where
    pub sane : Sane xs used
    pub low : a < used
    pub mark : (at xs a).mark ≡ Standing

  pub stands_free : (a : ℕ) → Sane xs used → stands xs used a ≡ true → Free a
  stands_free a s e = let d = both_true (ltb a used) (is_standing (at xs a).mark) e in record { sane = s; low = ltb-true a used d.0; mark = stands_mark (at xs a).mark d.1 }

  pub free_whole : (a : ℕ) → Free a → Whole xs a
  free_whole a f = whole xs used f.sane a f.low (subst Alive (sym f.mark) tt)

  pub full_room : None ≡ full xs used → used < node_room xs
  unfolding full
  full_room e = ltb-true used (node_room xs) (unless_none (ltb used (node_room xs)) R.NoNodeLeft 0 e)

  pub full_inside : None ≡ full xs used → used < length xs
  full_inside e = let h = full_room e in omega arith

  pub full_few : None ≡ full xs used → used < 256
  full_few e = let h = full_room e in omega arith

  pub granted_room : (x y : Unit {0}) → Ok y ≡ granted (full xs used) x → used < length xs
  granted_room x y e = full_inside (granted_none (full xs used) x y e)

  pub granted_few : (x y : Unit {0}) → Ok y ≡ granted (full xs used) x → used < 256
  granted_few x y e = full_few (granted_none (full xs used) x y e)

  pub negate_inside : (a n : ℕ) (ys : List (Slot T)) → Whole xs a → n ≡ root (negated_placed opposite (filter_at xs a)) → ys ≡ negation (filter_at xs a) xs → n < length ys
  negate_inside a n ys f en ey =
      let p = filter_at xs a in
      let k = root (negated_placed opposite p) in
      let i = inside_low xs a f k (negated_in opposite p k (root_in (negated_placed opposite p))) in
      let l : length ys ≡ length xs = ap length ey ∙ negation_length p xs in
      omega arith

  pub rewrite_inside : (folds : Bool) (a n : ℕ) (ys : List (Slot T)) → Whole xs a → n ≡ root (rewritten_placed folds opposite (filter_at xs a)) → ys ≡ rewriting folds (filter_at xs a) xs → n < length ys
  rewrite_inside folds a n ys f en ey =
      let p = filter_at xs a in
      let k = root (rewritten_placed folds opposite p) in
      let i = inside_low xs a f k (rewritten_in folds opposite p k (root_in (rewritten_placed folds opposite p))) in
      let l : length ys ≡ length xs = ap length ey ∙ (whole_edit folds xs a f).long in
      omega arith

-- a condition laid over literals
module _ {T : Type 0} (b m : Tables T) (new : List Literal) where
  pub stored_refuses : (p : Option Refused) (x y : Unit {0}) (e : Refused) (done : After T) → Ok y ≡ granted p x → Err e ≡ granted (no_room b new) (cells b new) → m ≡ b → after m (Err e) ≡ outcome b (else p (no_room b new)) done
  stored_refuses p x y e done h i d = ap (λ n. after n (Err e)) d ∙ refuses b (else p (no_room b new)) (cells b new) e done (granted_next p (no_room b new) x y (cells b new) (Err e) h i)

  pub stored_grants : (p : Option Refused) (x y : Unit {0}) (r : Run) (node : Run → Node T) (a : After T) → Ok y ≡ granted p x → Ok r ≡ granted (no_room b new) (cells b new) → m ≡ storing b new → a ≡ writing m (laid m.slots m.used (node r)) → a ≡ outcome b (else p (no_room b new)) (writing (storing b new) (laid b.slots b.used (node (cells b new))))
  stored_grants p x y r node a h i d e =
      grants b (else p (no_room b new)) (cells b new) r a _ (granted_next p (no_room b new) x y (cells b new) (Ok r) h i)
      (e ∙ ap₂ (λ (n : Tables T) v. writing n (laid n.slots n.used (node v))) d (granted_value (no_room b new) (cells b new) r i))

  pub stored_inside : (r : Run) → Ok r ≡ granted (no_room b new) (cells b new) → m ≡ storing b new → m.used < length m.slots
  stored_inside r h d = subst (λ (n : Tables T). n.used < length n.slots) (sym d) (full_inside b.slots b.used (else_none (full b.slots b.used) _ (granted_none (no_room b new) (cells b new) r h)).0)

  pub stored_few : (r : Run) → Ok r ≡ granted (no_room b new) (cells b new) → m ≡ storing b new → m.used < 256
  stored_few r h d = subst (λ (n : Tables T). n.used < 256) (sym d) (full_few b.slots b.used (else_none (full b.slots b.used) _ (granted_none (no_room b new) (cells b new) r h)).0)

module _ {T : Type 0} (s : Setting T) (b : Tables T) where
  -- what the check of the tables says
  pub record Checked : Type 0 where
    pub sane : Sane b.slots b.used
    pub fit : Fitting (fits s.within (length s.text) (used_of b.literals b.stored)) b.slots b.used
    pub room : b.stored ≤ literal_room b.literals

  pub checked : None ≡ barred s b → Checked
  checked e =
      let p = passed s.within (length s.text) b.literals b.stored b.slots b.used (place_none R.UnsoundTables (unsound s.within (length s.text) b.slots b.used b.literals b.stored) e) in
      record { sane = p.0; fit = p.1; room = p.2 }

  pub record One (a : ℕ) : Type 0 where
    pub checked : Checked
    pub free : Free b.slots b.used a

  pub one : (a : ℕ) → None ≡ barred_one s b a → One a
  unfolding barred_one
  one a e =
      let d = else_none (barred s b) (no_filter b a) e in
      let k = checked d.0 in
      record { checked = k; free = stands_free b.slots b.used a k.sane (unless_none (stands b.slots b.used a) R.NoFilter a d.1) }

  pub record Two (l r : ℕ) : Type 0 where
    pub checked : Checked
    pub left : Free b.slots b.used l
    pub right : Free b.slots b.used r
    pub differ : l ≡ r → ⊥

  pub two : (l r : ℕ) → None ≡ barred_two s b l r → Two l r
  unfolding barred_two
  two l r e =
      let d = else_none (barred s b) (else (no_filter b l) (else (no_filter b r) (unless (not (eqb l r)) R.SameFilter l))) e in
      let f = else_none (no_filter b l) (else (no_filter b r) (unless (not (eqb l r)) R.SameFilter l)) d.1 in
      let g = else_none (no_filter b r) (unless (not (eqb l r)) R.SameFilter l) f.1 in
      let k = checked d.0 in
      record {
        checked = k;
        left = stands_free b.slots b.used l k.sane (unless_none (stands b.slots b.used l) R.NoFilter l f.0);
        right = stands_free b.slots b.used r k.sane (unless_none (stands b.slots b.used r) R.NoFilter r g.0);
        differ = eqb-false l r (not-true (eqb l r) (unless_none (not (eqb l r)) R.SameFilter l g.1));
      }

  pub granted_one : (a : ℕ) (x y : Unit {0}) → Ok y ≡ granted (barred_one s b a) x → Whole b.slots a
  granted_one a x y e = free_whole b.slots b.used a (one a (granted_none (barred_one s b a) x y e)).free

  pub rewritten_low : (folds : Bool) (a n : ℕ) (ys : List (Slot T)) (x y : Unit {0}) → Ok y ≡ granted (barred_one s b a) x → n ≡ root (rewritten_placed folds opposite (filter_at b.slots a)) → ys ≡ rewriting folds (filter_at b.slots a) b.slots → n < length ys
  rewritten_low folds a n ys x y e en ey = rewrite_inside b.slots b.used folds a n ys (granted_one a x y e) en ey

  pub negated_low : (a n : ℕ) (ys : List (Slot T)) (x y : Unit {0}) → Ok y ≡ granted (barred_one s b a) x → n ≡ root (negated_placed opposite (filter_at b.slots a)) → ys ≡ negation (filter_at b.slots a) b.slots → n < length ys
  negated_low a n ys x y e en ey = negate_inside b.slots b.used a n ys (granted_one a x y e) en ey

  pub granted_left : (l r : ℕ) (x y : Unit {0}) → Ok y ≡ granted (barred_two s b l r) x → Whole b.slots l
  granted_left l r x y e = free_whole b.slots b.used l (two l r (granted_none (barred_two s b l r) x y e)).left

  pub granted_right : (l r : ℕ) (x y : Unit {0}) → Ok y ≡ granted (barred_two s b l r) x → Whole b.slots r
  granted_right l r x y e = free_whole b.slots b.used r (two l r (granted_none (barred_two s b l r) x y e)).right

-- a Not over a filter
module _ {T : Type 0} (s : Setting T) (b : Tables T) (a : ℕ) (x y v : Unit {0}) (h : Ok y ≡ granted (barred_one s b a) x) where
  pub over_full : (e : Refused) → Err e ≡ granted (full b.slots b.used) v → after b (Err e) ≡ not_after s b a
  unfolding not_after
  over_full e g = grants b (barred_one s b a) x y _ _ h (ap (writing b) (roomy_no b.slots b.used _ e (granted_some (full b.slots b.used) v e g)))

  pub over_laid : (w : Unit {0}) (zs : List (Slot T)) (r : After T) → Ok w ≡ granted (full b.slots b.used) v → zs ≡ marked a Joined b.slots → r ≡ writing b (laid zs b.used (Not a)) → r ≡ not_after s b a
  unfolding not_after
  over_laid w zs r g ez er = grants b (barred_one s b a) x y r _ h (er ∙ ap (writing b) (ap (λ us. laid us b.used (Not a)) ez ∙ roomy_yes b.slots b.used _ _ (granted_none (full b.slots b.used) v w g) refl))

-- a join of two filters
module _ {T : Type 0} (c : Connective) (s : Setting T) (b : Tables T) (l r : ℕ) (x y : Unit {0}) (d e : Slot T) (h : Ok y ≡ granted (barred_two s b l r) x) where
  abbrev side_read : Keep
  side_read = side c (constant_of (form (get_or b.slots l d).node)) (constant_of (form (get_or b.slots r e).node))

  abbrev join_by : Keep → Written T
  join_by k = picked k (written (struck (filter_at b.slots r) b.slots) b.used (Ok l)) (written (struck (filter_at b.slots l) b.slots) b.used (Ok r)) (roomy b.slots b.used (full b.slots b.used) (laid (marked r Joined (marked l Joined b.slots)) b.used (join c l r)))

  pub joins_by : (k : Keep) (w : Written T) → k ≡ side_read → w ≡ join_by k → writing b w ≡ join_after c s b l r
  unfolding join_after
  joins_by k w f i =
      let u = get_or_default b.slots l d nowhere (granted_left s b l r x y h).inside in
      let v = get_or_default b.slots r e nowhere (granted_right s b l r x y h).inside in
      grants b (barred_two s b l r) x y (writing b w) _ h (ap (writing b) (i ∙ ap join_by (f ∙ ap₂ (λ (m n : Slot T). side c (constant_of (form m.node)) (constant_of (form n.node))) u v)))

  pub joins_both : (v w : Unit {0}) (n : Node T) (zs : List (Slot T)) (a : After T) → Both ≡ side_read → Ok w ≡ granted (full b.slots b.used) v → n ≡ join c l r → zs ≡ marked r Joined (marked l Joined b.slots) → a ≡ writing b (laid zs b.used n) → a ≡ join_after c s b l r
  joins_both v w n zs a f g en ez ea = ea ∙ joins_by Both (laid zs b.used n) f (ap₂ (λ us m. laid us b.used m) ez en ∙ roomy_yes b.slots b.used _ _ (granted_none (full b.slots b.used) v w g) refl)

  pub joins_full : (v : Unit {0}) (a : Refused) → Both ≡ side_read → Err a ≡ granted (full b.slots b.used) v → after b (Err a) ≡ join_after c s b l r
  joins_full v a f g = joins_by Both (written b.slots b.used (Err a)) f (roomy_no b.slots b.used _ a (granted_some (full b.slots b.used) v a g))

-- what a check that was passed says of the tables
pub ruleset room = (granted_room, granted_few)

pub ruleset standing = (granted_one, granted_left, granted_right)
