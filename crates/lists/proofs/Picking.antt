-- Picking the places of what a list keeps, and copying what is picked.
use Rattle.std.proofs.Common.{◌≡◌, ℕ, zero, suc, ◌+◌, ◌<◌, ◌≤◌, Bool, true, false, leb, List, [], ◌∷◌, ◌++◌, length, get_or, take, drop, set, Some, None, Option, sym, refl, ap, ◌∙◌, subst, arith}
use Rattle.std.proofs.lemmas.List.{at_drop_more, at_drop_all, length-set, append_assoc, append-nil, length-append, take_more_set, set_at, length-take-le, drop_more, take_more, length_push}
use Rattle.std.proofs.lemmas.Bool.{le-leb, lt-leb}
use Rattle.std.proofs.lemmas.Option.{slice_get_read}
use Rattle.std.specs.List.{slice_get}
use Rattle.lists.specs.declared.list.Offered.TheVariants.{Kept, Dropped, Full}
use Rattle.lists.specs.Keep.{against, fresh, kept, run, offered, placed, laid_end, laid}
use Rattle.lists.specs.Picks.{alike, before, chosen, Below}
use Rattle.lists.proofs.Runs.{from_zero}
use Rattle.lists.proofs.Tells.{was_dropped, was_kept, was_full}

pub below_at : (n : ℕ) (is : List ℕ) (i : ℕ) → Below n is → i < length is → get_or is i 0 < n
below_at n [] i b h = omega arith
below_at n (j ∷ is) zero b h = b.0
below_at n (j ∷ is) (suc i) b h = below_at n is i b.1 (omega arith)

below_push : (n : ℕ) (is : List ℕ) (j : ℕ) → Below n is → j < n → Below n (is ++ (j ∷ []))
below_push n [] j b h = (h, tt)
below_push n (i ∷ is) j b h = (b.0, below_push n is j b.1 h)

below-take : (n : ℕ) (is : List ℕ) (j : ℕ) → Below n is → Below n (take j is)
below-take n [] zero b = tt
below-take n [] (suc j) b = tt
below-take n (i ∷ is) zero b = tt
below-take n (i ∷ is) (suc j) b = (b.0, below-take n is j b.1)

before_append : {X : Type 0} (o : Option X) (ys zs : List X) → before o (ys ++ zs) ≡ before o ys ++ zs
before_append None ys zs = refl
before_append (Some y) ys zs = refl

chosen_append : {X : Type 0} (xs : List X) (is js : List ℕ) → chosen xs (is ++ js) ≡ chosen xs is ++ chosen xs js
chosen_append xs [] js = refl
chosen_append xs (i ∷ is) js = ap (before (slice_get xs i)) (chosen_append xs is js) ∙ before_append (slice_get xs i) (chosen xs is) (chosen xs js)

chosen_push : {X : Type 0} (xs : List X) (is : List ℕ) (i : ℕ) (y : X) → i < length xs → y ≡ get_or xs i y → chosen xs (is ++ (i ∷ [])) ≡ chosen xs is ++ (y ∷ [])
chosen_push xs is i y h e =
    chosen_append xs is (i ∷ []) ∙ ap (λ o. chosen xs is ++ before o []) (slice_get_read xs (length xs) i y refl h e)

-- a place below the length has an element
element : {X : Type 0} (xs : List X) (i : ℕ) → i < length xs → (y : X) × (slice_get xs i ≡ Some y) × (y ≡ get_or xs i y)
element [] i h = absurd (omega arith)
element (x ∷ xs) zero h = (x, refl, refl)
element (x ∷ xs) (suc i) h = element xs i (omega arith)

pub length-chosen : {X : Type 0} (xs : List X) (is : List ℕ) → Below (length xs) is → length (chosen xs is) ≡ length is
length-chosen xs [] b = refl
length-chosen xs (i ∷ is) b =
    ap (λ o. length (before o (chosen xs is))) (element xs i b.0).1 ∙ ap suc (length-chosen xs is b.1)

-- a place passes against the places picked as its element against those chosen
against-chosen : {X : Type 0} (p : X → X → Bool) (xs : List X) (is : List ℕ) (j : ℕ) (y : X) → Below (length xs) is → slice_get xs j ≡ Some y → against (alike p xs) is j ≡ against p (chosen xs is) y
against-chosen p xs [] j y b e = refl
against-chosen p xs (i ∷ is) j y b e =
    let at_i = element xs i b.0 in
    rw (e, at_i.1, against-chosen p xs is j y b.1 e) refl

-- one more element written
placed_push : {X : Type 0} (items : List X) (start : ℕ) (xs : List X) (x : X) → start + length xs < length items → set (placed items start xs) (start + length xs) x ≡ placed items start (xs ++ (x ∷ []))
placed_push items start xs x h =
    let n : ℕ = start + length xs in
    let front : length (take start items ++ xs) ≡ n = length-append (take start items) xs ∙ ap (λ k. k + length xs) (length-take-le start items (omega arith)) in
    let rest = drop (n + 1) items in
    let more : n + 1 ≡ start + length (xs ++ (x ∷ [])) = omega (arith, length_push xs x) in
    ap (λ zs. set (take start items ++ (xs ++ zs)) n x) (drop_more items n x h)
    ∙ ap (λ zs. set zs n x) (sym (append_assoc (take start items) xs (get_or items n x ∷ rest)))
    ∙ set_at (take start items ++ xs) (get_or items n x) rest x n front
    ∙ append_assoc (take start items) xs (x ∷ rest)
    ∙ ap (λ zs. take start items ++ zs) (sym (append_assoc xs (x ∷ []) rest))
    ∙ ap (λ k. take start items ++ ((xs ++ (x ∷ [])) ++ drop k items)) more

-- one more element copied
pub copied_more : {X : Type 0} (items now_items xs : List X) (start : ℕ) (is : List ℕ) (j : ℕ) (y : X) → j < length is → Below (length xs) is → start + length is ≤ length items → y ≡ get_or xs (get_or is j 0) y → now_items ≡ placed items start (chosen xs (take j is)) → set now_items (start + j) y ≡ placed items start (chosen xs (take (j + 1) is))
copied_more items now_items xs start is j y h b room e inv =
    let so_far = chosen xs (take j is) in
    let len : length so_far ≡ j = length-chosen xs (take j is) (below-take (length xs) is j b) ∙ length-take-le j is (omega arith) in
    ap (λ zs. set zs (start + j) y) inv
    ∙ ap (λ k. set (placed items start so_far) (start + k) y) (sym len)
    ∙ placed_push items start so_far y (omega arith)
    ∙ ap (placed items start) (sym (chosen_push xs (take j is) (get_or is j 0) y (below_at (length xs) is j b h) e) ∙ ap (chosen xs) (sym (take_more is j 0 h)))

-- so many places are picked, the elements from i on to come
pub record Going {X : Type 0} (p : X → X → Bool) (xs : List X) (len : ℕ) (picks : List ℕ) (end i : ℕ) : Type 0 where
  pub long : length picks ≡ len
  pub within : end ≤ len
  pub below : Below (length xs) (take end picks)
  pub rest : kept p xs ≡ chosen xs (take end picks) ++ fresh p (chosen xs (take end picks)) (drop i xs)

dropped : {X : Type 0} (p : X → X → Bool) (held xs : List X) (i : ℕ) (x : X) → i < length xs → x ≡ get_or xs i x → against p held x ≡ true → fresh p held (drop i xs) ≡ fresh p held (drop (i + 1) xs)
dropped p held xs i x h e t = at_drop_more (fresh p held) xs i x h ∙ rw (← e, t) refl

kept_next : {X : Type 0} (p : X → X → Bool) (held xs : List X) (i : ℕ) (x : X) → i < length xs → x ≡ get_or xs i x → against p held x ≡ false → fresh p held (drop i xs) ≡ x ∷ fresh p (held ++ (x ∷ [])) (drop (i + 1) xs)
kept_next p held xs i x h e t = at_drop_more (fresh p held) xs i x h ∙ rw (← e, t) refl

-- a place that is offered: its element passes against those chosen as the place against those picked
offered-chosen : {X : Type 0} (p : X → X → Bool) (xs : List X) (len : ℕ) (picks : List ℕ) (end i : ℕ) (x : X) (b : Bool) → Going p xs len picks end i → slice_get xs i ≡ Some x → against (alike p xs) (run picks 0 end) i ≡ b → against p (chosen xs (take end picks)) x ≡ b
offered-chosen p xs len picks end i x b g e t =
    sym (against-chosen p xs (take end picks) i x g.below e) ∙ ap (λ is. against (alike p xs) is i) (sym (from_zero picks end)) ∙ t

pub going_dropped : {X : Type 0} (p : X → X → Bool) (xs : List X) (len : ℕ) (picks : List ℕ) (end i : ℕ) → Going p xs len picks end i → i < length xs → Dropped ≡ offered (alike p xs) picks 0 end i → Going p xs len picks end (i + 1)
going_dropped p xs len picks end i g h o =
    let here = element xs i h in
    let so_far = chosen xs (take end picks) in
    let t = offered-chosen p xs len picks end i here.0 true g here.1 (was_dropped (alike p xs) picks 0 end i o) in
    record { long = g.long; within = g.within; below = g.below; rest = g.rest ∙ ap (λ zs. so_far ++ zs) (dropped p so_far xs i here.0 h here.2 t) }

pub going_kept : {X : Type 0} (p : X → X → Bool) (xs : List X) (len : ℕ) (picks : List ℕ) (end i : ℕ) → Going p xs len picks end i → i < length xs → Kept ≡ offered (alike p xs) picks 0 end i → Going p xs len (set picks end i) (end + 1) (i + 1)
going_kept p xs len picks end i g h o =
    let here = element xs i h in
    let x = here.0 in
    let so_far = chosen xs (take end picks) in
    let was = was_kept (alike p xs) picks 0 end i o in
    let t = offered-chosen p xs len picks end i x false g here.1 was.0 in
    let more : take (end + 1) (set picks end i) ≡ take end picks ++ (i ∷ []) = take_more_set picks end i was.2 in
    let now_chosen : chosen xs (take (end + 1) (set picks end i)) ≡ so_far ++ (x ∷ []) = ap (chosen xs) more ∙ chosen_push xs (take end picks) i x h here.2 in
    record {
      long = length-set picks end i ∙ g.long;
      within = omega (arith, g.long, was.2);
      below = subst (Below (length xs)) (sym more) (below_push (length xs) (take end picks) i g.below h);
      rest =
          g.rest
          ∙ ap (λ zs. so_far ++ zs) (kept_next p so_far xs i x h here.2 t)
          ∙ sym (append_assoc so_far (x ∷ []) (fresh p (so_far ++ (x ∷ [])) (drop (i + 1) xs)))
          ∙ ap (λ zs. zs ++ fresh p zs (drop (i + 1) xs)) (sym now_chosen);
    }

pub going_full : {X : Type 0} (p : X → X → Bool) (xs : List X) (len : ℕ) (picks : List ℕ) (end i : ℕ) → Going p xs len picks end i → i < length xs → Full ≡ offered (alike p xs) picks 0 end i → len < length (kept p xs)
going_full p xs len picks end i g h o =
    let here = element xs i h in
    let so_far = chosen xs (take end picks) in
    let was = was_full (alike p xs) picks 0 end i o in
    let t = offered-chosen p xs len picks end i here.0 false g here.1 was.0 in
    let rest = fresh p (so_far ++ (here.0 ∷ [])) (drop (i + 1) xs) in
    let size : length (kept p xs) ≡ length so_far + suc (length rest) = ap length (g.rest ∙ ap (λ zs. so_far ++ zs) (kept_next p so_far xs i here.0 h here.2 t)) ∙ length-append so_far (here.0 ∷ rest) in
    let many : length so_far ≡ length (take end picks) = length-chosen xs (take end picks) g.below in
    let all : length (take end picks) ≡ end = length-take-le end picks (omega (arith, g.long, g.within)) in
    let past : length picks ≤ end = was.1 (omega arith) in
    omega (arith, g.long)

pub going_done : {X : Type 0} (p : X → X → Bool) (xs : List X) (len : ℕ) (picks : List ℕ) (end i : ℕ) → Going p xs len picks end i → length xs ≤ i → chosen xs (take end picks) ≡ kept p xs
going_done p xs len picks end i g h =
    sym (g.rest ∙ ap (λ zs. chosen xs (take end picks) ++ zs) (at_drop_all (fresh p (chosen xs (take end picks))) xs i h) ∙ append-nil (chosen xs (take end picks)))

pub going_none : {X : Type 0} (p : X → X → Bool) (xs : List X) (picks : List ℕ) → Going p xs (length picks) picks 0 0
going_none p xs picks = record { long = refl; within = omega arith; below = tt; rest = refl }

-- as many are picked as are kept
pub length_picked : {X : Type 0} (new xs : List X) (picks : List ℕ) (n : ℕ) → n ≤ length picks → Below (length xs) (take n picks) → chosen xs (take n picks) ≡ new → length new ≡ n
length_picked new xs picks n l b is = ap length (sym is) ∙ length-chosen xs (take n picks) b ∙ length-take-le n picks l

-- all fit, and are copied
pub fits : {X : Type 0} (new items after : List X) (start room n : ℕ) → start + n ≤ room → length new ≡ n → after ≡ placed items start new → (Some (start + n) ≡ laid_end new start room) × (after ≡ laid new items start room)
fits new items after start room n h size a =
    let room_left : leb (start + length new) room ≡ true = le-leb (start + length new) room (omega arith) in
    (rw room_left (ap (λ k. Some (start + k)) (sym size)), rw room_left a)

-- too many to fit
pub fits_not : {X : Type 0} (new items : List X) (start room : ℕ) → room < start + length new → (None ≡ laid_end new start room) × (items ≡ laid new items start room)
fits_not new items start room h =
    let no_room : leb (start + length new) room ≡ false = lt-leb (start + length new) room h in
    (rw no_room refl, rw no_room refl)
