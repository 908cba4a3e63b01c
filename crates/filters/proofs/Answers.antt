-- What an even-handed visitor answers to trees that were joined, negated or rewritten.
use Rattle.std.proofs.Common.{◌≡◌, Bool, true, false, not, Ok, Result, sym, refl, ap, ◌∙◌, subst}
use Rattle.filters.specs.Trees.{Tree, constant, condition, And, Or, Not, and, or, and_if, or_if, negated, rewritten, Each}
use Rattle.filters.specs.Meanings.{Meaning, then, walked, Fine, EvenHanded, Answered}
use Rattle.filters.proofs.Views.{and_view, or_view, then_parts, ok_same}

module _ {A F X : Type 0} (opposite : X → X) (m : Meaning A F X) (e : EvenHanded opposite m) where
  abbrev pub Gives : Tree X → A → Type 0
  Gives t x = walked m t ≡ Ok x

  -- what a constant gives
  abbrev told : Bool → A
  told true = e.top
  told false = e.bottom

  constant_gives : (b : Bool) → Gives (constant b) (told b)
  constant_gives true = e.always_true
  constant_gives false = e.always_false

  told-valid : (b : Bool) → e.valid (told b) ≡ true
  told-valid true = e.top_valid
  told-valid false = e.bottom_valid

  told-not : (b : Bool) → told (not b) ≡ e.turn (told b)
  told-not true = sym e.turn_top
  told-not false = sym e.turn_bottom

  -- a tree that is a constant gives what that does
  same_told : (t : Tree X) (b : Bool) (x : A) → t ≡ constant b → Gives t x → x ≡ told b
  same_told t b x d h = ok_same x (told b) (sym h ∙ ap (walked m) d ∙ constant_gives b)

  And_gives : (l r : Tree X) (x y : A) → e.valid x ≡ true → e.valid y ≡ true → Gives l x → Gives r y → Gives (And l r) (e.meet x y)
  And_gives l r x y v w h i = rw (h, i) (e.and_gives x y v w)

  Or_gives : (l r : Tree X) (x y : A) → e.valid x ≡ true → e.valid y ≡ true → Gives l x → Gives r y → Gives (Or l r) (e.join x y)
  Or_gives l r x y v w h i = rw (h, i) (e.or_gives x y v w)

  pub Not_gives : (t : Tree X) (x : A) → e.valid x ≡ true → Gives t x → Gives (Not t) (e.turn x)
  Not_gives t x v h = rw h (e.not_gives x v)

  pub and_gives : (l r : Tree X) (x y : A) → e.valid x ≡ true → e.valid y ≡ true → Gives l x → Gives r y → Gives (and l r) (e.meet x y)
  and_gives l r x y v w h i =
      and_view (λ t. Gives t (e.meet x y)) l r
      (λ d. let k = same_told l false x d h in cc (e.bottom_meet y w))
      (λ d. let k = same_told l true x d h in cc (e.top_meet y w))
      (λ d. let k = same_told r false y d i in cc (e.meet_bottom x v))
      (λ d. let k = same_told r true y d i in cc (e.meet_top x v))
      (λ d f. And_gives l r x y v w h i)

  pub or_gives : (l r : Tree X) (x y : A) → e.valid x ≡ true → e.valid y ≡ true → Gives l x → Gives r y → Gives (or l r) (e.join x y)
  or_gives l r x y v w h i =
      or_view (λ t. Gives t (e.join x y)) l r
      (λ d. let k = same_told l true x d h in cc (e.top_join y w))
      (λ d. let k = same_told l false x d h in cc (e.bottom_join y w))
      (λ d. let k = same_told r true y d i in cc (e.join_top x v))
      (λ d. let k = same_told r false y d i in cc (e.join_bottom x v))
      (λ d f. Or_gives l r x y v w h i)

  fine_valid : (r : Result A F) (x : A) → r ≡ Ok x → Fine e.valid r → e.valid x ≡ true
  fine_valid r x d h = subst (Fine e.valid) d h

  -- what is answered is valid
  pub gives_valid : (t : Tree X) (x : A) → Gives t x → e.valid x ≡ true
  gives_valid (constant b) x h = let k = same_told (constant b) b x refl h in ap e.valid k ∙ told-valid b
  gives_valid (condition c) x h = fine_valid (m.on c) x h (e.on_valid c)
  gives_valid (And l r) z h =
      let p = then_parts (walked m l) (λ x. then (walked m r) (λ y. m.both x y)) z h in
      let q = then_parts (walked m r) (λ y. m.both p.0 y) z p.2 in
      let v = gives_valid l p.0 p.1 in
      let w = gives_valid r q.0 q.1 in
      ap e.valid (ok_same z (e.meet p.0 q.0) (sym q.2 ∙ e.and_gives p.0 q.0 v w)) ∙ e.meet_valid p.0 q.0 v w
  gives_valid (Or l r) z h =
      let p = then_parts (walked m l) (λ x. then (walked m r) (λ y. m.either x y)) z h in
      let q = then_parts (walked m r) (λ y. m.either p.0 y) z p.2 in
      let v = gives_valid l p.0 p.1 in
      let w = gives_valid r q.0 q.1 in
      ap e.valid (ok_same z (e.join p.0 q.0) (sym q.2 ∙ e.or_gives p.0 q.0 v w)) ∙ e.join_valid p.0 q.0 v w
  gives_valid (Not t) z h =
      let p = then_parts (walked m t) (λ x. m.other x) z h in
      let v = gives_valid t p.0 p.1 in
      ap e.valid (ok_same z (e.turn p.0) (sym p.2 ∙ e.not_gives p.0 v)) ∙ e.turn_valid p.0 v

  -- what gave a join's answer
  pub record Parts (l r : Tree X) (f : A → A → A) (z : A) : Type 0 where
    pub left : A
    pub right : A
    pub left_valid : e.valid left ≡ true
    pub right_valid : e.valid right ≡ true
    pub left_gives : Gives l left
    pub right_gives : Gives r right
    pub is : z ≡ f left right

  pub And_parts : (l r : Tree X) (z : A) → Gives (And l r) z → Parts l r e.meet z
  And_parts l r z h =
      let p = then_parts (walked m l) (λ x. then (walked m r) (λ y. m.both x y)) z h in
      let q = then_parts (walked m r) (λ y. m.both p.0 y) z p.2 in
      let v = gives_valid l p.0 p.1 in
      let w = gives_valid r q.0 q.1 in
      record { left = p.0; right = q.0; left_valid = v; right_valid = w; left_gives = p.1; right_gives = q.1; is = ok_same z (e.meet p.0 q.0) (sym q.2 ∙ e.and_gives p.0 q.0 v w) }

  pub Or_parts : (l r : Tree X) (z : A) → Gives (Or l r) z → Parts l r e.join z
  Or_parts l r z h =
      let p = then_parts (walked m l) (λ x. then (walked m r) (λ y. m.either x y)) z h in
      let q = then_parts (walked m r) (λ y. m.either p.0 y) z p.2 in
      let v = gives_valid l p.0 p.1 in
      let w = gives_valid r q.0 q.1 in
      record { left = p.0; right = q.0; left_valid = v; right_valid = w; left_gives = p.1; right_gives = q.1; is = ok_same z (e.join p.0 q.0) (sym q.2 ∙ e.or_gives p.0 q.0 v w) }

  pub Not_parts : (t : Tree X) (z : A) → Gives (Not t) z → (x : A) × (e.valid x ≡ true) × Gives t x × (z ≡ e.turn x)
  Not_parts t z h =
      let p = then_parts (walked m t) (λ x. m.other x) z h in
      let v = gives_valid t p.0 p.1 in
      (p.0, v, p.1, ok_same z (e.turn p.0) (sym p.2 ∙ e.not_gives p.0 v))

  moved : (t : Tree X) (x y : A) → x ≡ y → Gives t x → Gives t y
  moved t x y d h = h ∙ ap Ok d

  pub negated_gives : (t : Tree X) (x : A) → Gives t x → Gives (negated opposite t) (e.turn x)
  negated_gives (constant b) x h = let k = same_told (constant b) b x refl h in constant_gives (not b) ∙ ap Ok (told-not b ∙ ap e.turn (sym k))
  negated_gives (condition c) x h = e.opposite_gives c x h
  negated_gives (And l r) z h =
      let p = And_parts l r z h in
      moved (negated opposite (And l r)) (e.join (e.turn p.left) (e.turn p.right)) (e.turn z) (cc (e.turn_meet p.left p.right p.left_valid p.right_valid, p.is))
      (Or_gives (negated opposite l) (negated opposite r) (e.turn p.left) (e.turn p.right) (e.turn_valid p.left p.left_valid) (e.turn_valid p.right p.right_valid) (negated_gives l p.left p.left_gives) (negated_gives r p.right p.right_gives))
  negated_gives (Or l r) z h =
      let p = Or_parts l r z h in
      moved (negated opposite (Or l r)) (e.meet (e.turn p.left) (e.turn p.right)) (e.turn z) (cc (e.turn_join p.left p.right p.left_valid p.right_valid, p.is))
      (And_gives (negated opposite l) (negated opposite r) (e.turn p.left) (e.turn p.right) (e.turn_valid p.left p.left_valid) (e.turn_valid p.right p.right_valid) (negated_gives l p.left p.left_gives) (negated_gives r p.right p.right_gives))
  negated_gives (Not t) z h =
      let p = Not_parts t z h in
      moved t p.0 (e.turn z) (cc (e.turn_turn p.0 p.1, p.3)) p.2

  and_if_gives : (folds : Bool) (l r : Tree X) (x y : A) → e.valid x ≡ true → e.valid y ≡ true → Gives l x → Gives r y → Gives (and_if folds l r) (e.meet x y)
  and_if_gives true = and_gives
  and_if_gives false = And_gives

  or_if_gives : (folds : Bool) (l r : Tree X) (x y : A) → e.valid x ≡ true → e.valid y ≡ true → Gives l x → Gives r y → Gives (or_if folds l r) (e.join x y)
  or_if_gives true = or_gives
  or_if_gives false = Or_gives

  pub rewritten_gives : (folds : Bool) (t : Tree X) (x : A) → Gives t x → Gives (rewritten folds opposite t) x
  rewritten_gives folds (constant b) x h = h
  rewritten_gives folds (condition c) x h = h
  rewritten_gives folds (And l r) z h =
      let p = And_parts l r z h in
      moved (rewritten folds opposite (And l r)) (e.meet p.left p.right) z (sym p.is)
      (and_if_gives folds (rewritten folds opposite l) (rewritten folds opposite r) p.left p.right p.left_valid p.right_valid (rewritten_gives folds l p.left p.left_gives) (rewritten_gives folds r p.right p.right_gives))
  rewritten_gives folds (Or l r) z h =
      let p = Or_parts l r z h in
      moved (rewritten folds opposite (Or l r)) (e.join p.left p.right) z (sym p.is)
      (or_if_gives folds (rewritten folds opposite l) (rewritten folds opposite r) p.left p.right p.left_valid p.right_valid (rewritten_gives folds l p.left p.left_gives) (rewritten_gives folds r p.right p.right_gives))
  rewritten_gives folds (Not t) z h =
      let p = Not_parts t z h in
      moved (rewritten folds opposite (Not t)) (e.turn p.0) z (sym p.3) (negated_gives (rewritten folds opposite t) p.0 (rewritten_gives folds t p.0 p.2))

  -- where no condition faults, there is an answer
  pub answer : (t : Tree X) → Each (Answered m) t → (x : A) × Gives t x
  answer (constant b) h = (told b, constant_gives b)
  answer (condition c) h = h
  answer (And l r) h =
      let p = answer l h.0 in
      let q = answer r h.1 in
      (e.meet p.0 q.0, And_gives l r p.0 q.0 (gives_valid l p.0 p.1) (gives_valid r q.0 q.1) p.1 q.1)
  answer (Or l r) h =
      let p = answer l h.0 in
      let q = answer r h.1 in
      (e.join p.0 q.0, Or_gives l r p.0 q.0 (gives_valid l p.0 p.1) (gives_valid r q.0 q.1) p.1 q.1)
  answer (Not t) h = let p = answer t h in (e.turn p.0, Not_gives t p.0 (gives_valid t p.0 p.1) p.1)
