-- The turns of a walk: what is still to come gives what the filter gives, and grows less.
use Rattle.std.proofs.Common.{◌≡◌, ℕ, ◌+◌, ◌*◌, ◌<◌, ◌≤◌, List, [], ◌∷◌, length, Ok, Err, Result, sym, refl, ap, ◌∙◌, subst, arith}
use Rattle.values.specs.declared.refusals.Refused.{Refused}
use Rattle.filters.specs.Meanings.{Meaning, then}
use Rattle.filters.specs.Placed.{Form, always, test, both, either, other, Placed, constant_at, condition_at, and_node_at, or_node_at, not_node_at}
use Rattle.nodes.specs.declared.slots.Slot.{Slot}
use Rattle.nodes.specs.Tables.{Held, nodes, filter_at}
use Rattle.nodes.specs.Filters.{Whole}
use Rattle.nodes.proofs.Found.{at_always, at_test, at_both, at_either, at_other, two_and, two_or, one_not}
use Rattle.walk.specs.declared.faults.Fault.{Fault}
use Rattle.walk.specs.declared.frames.Frame.{Frame}
use Rattle.walk.specs.declared.frames.Frame.TheVariants.{Left, Right, Not}
use Rattle.walk.specs.declared.frames.Turn.{Turn}
use Rattle.walk.specs.declared.frames.Turn.TheVariants.{Visit, Answer}
use Rattle.walk.specs.Faults.{at_node}
use Rattle.walk.specs.Steps.{stacked, turned, joined, visiting, awaiting, resuming, remaining}
use Rattle.walk.specs.Visits.{visited, size}
use Rattle.walk.proofs.Rooms.{some_size}
use Rattle.walk.proofs.Stacks.{stacked_length}

-- ---- what is still to come, each node that is not visited yet counted a times, each join that it is the right side of b times
module _ {A T : Type 0} (xs : List (Slot T)) (a b : ℕ) where
  abbrev pub cost : Frame A → ℕ
  cost (Left n j k) = a * size (filter_at xs k) + b
  cost (Right n j x) = 1
  cost (Not n) = 1

  abbrev pub load : List (Frame A) → ℕ
  load [] = 0
  load (f ∷ fs) = cost f + load fs

  abbrev pub ahead : Turn A → ℕ
  ahead (Visit k) = a * size (filter_at xs k)
  ahead (Answer x) = 0

module _ {A T : Type 0} (xs : List (Slot T)) where
  -- frames are no more than the nodes that they are for
  pub frames_few : (fs : List (Frame A)) → length fs ≤ load xs 1 1 fs
  frames_few [] = omega arith
  frames_few (Left n j k ∷ fs) = let h = frames_few fs in omega arith
  frames_few (Right n j x ∷ fs) = let h = frames_few fs in omega arith
  frames_few (Not n ∷ fs) = let h = frames_few fs in omega arith

  -- what is still to come are filters whole in the table
  abbrev pub Ready : List (Frame A) → Type 0
  Ready [] = Unit {0}
  Ready (Left n j k ∷ fs) = Whole xs k × Ready fs
  Ready (Right n j x ∷ fs) = Ready fs
  Ready (Not n ∷ fs) = Ready fs

  -- how much is still to come: each turn takes some of it
  abbrev pub left : List (Frame A) → Turn A → ℕ
  left fs t = load xs 3 2 fs + ahead xs 3 2 t

  abbrev pub Next : Turn A → Type 0
  Next (Visit k) = Whole xs k
  Next (Answer x) = Unit {0}

module _ {A C T : Type 0} (m : Meaning A Fault C) (read : Held T → C) (xs : List (Slot T)) where
  -- what a frame makes of the answer that it waits for
  abbrev pub finish : Frame A → Result A Refused → Result A Refused
  finish (Left n j k) r = then r (λ x. then (visited m read (filter_at xs k)) (λ y. at_node n (joined m j x y)))
  finish (Right n j x) r = then r (λ y. at_node n (joined m j x y))
  finish (Not n) r = then r (λ x. at_node n (m.other x))

  abbrev pub unwind : List (Frame A) → Result A Refused → Result A Refused
  unwind [] r = r
  unwind (f ∷ fs) r = unwind fs (finish f r)

  abbrev pub due : Turn A → Result A Refused
  due (Visit k) = visited m read (filter_at xs k)
  due (Answer x) = Ok x

  unwind_refused : (fs : List (Frame A)) (e : Refused) → unwind fs (Err e) ≡ Err e
  unwind_refused [] e = refl
  unwind_refused (Left n j k ∷ fs) e = unwind_refused fs e
  unwind_refused (Right n j x ∷ fs) e = unwind_refused fs e
  unwind_refused (Not n ∷ fs) e = unwind_refused fs e

  -- before a turn: it comes to what all comes to, there is room for the frames, and the filters are whole
  pub record On (all : Result A Refused) (room : ℕ) (fs : List (Frame A)) (t : Turn A) : Type 0 where
    pub gives : unwind fs (due t) ≡ all
    pub fits : load xs 1 1 fs + ahead xs 1 1 t ≤ room
    pub ready : Ready xs fs
    pub next : Next xs t

  -- after it: there is less to come, or all comes to the refusal
  abbrev pub After : Result A Refused → ℕ → ℕ → List (Frame A) → Result (Turn A) Refused → Type 0
  After all room more fs (Ok t) = On all room fs t × (left xs fs t < more)
  After all room more fs (Err e) = Err e ≡ all

  module _ (all : Result A Refused) (room : ℕ) where
    rises : (fs : List (Frame A)) (more : ℕ) (r : Result A Refused) → unwind fs r ≡ all → load xs 1 1 fs ≤ room → Ready xs fs → load xs 3 2 fs < more → After all room more fs (turned r)
    rises fs more (Ok x) e h g l = (record { gives = e; fits = omega arith; ready = g; next = tt }, omega arith)
    rises fs more (Err f) e h g l = sym (unwind_refused fs f) ∙ e

    -- a filter to be visited, read as p
    record Here (k : ℕ) (fs : List (Frame A)) (p : Placed (Held T)) : Type 0 where
      gives : unwind fs (visited m read p) ≡ all
      fits : load xs 1 1 fs + 1 * size p ≤ room
      same : size (filter_at xs k) ≡ size p

    pub visits : (k : ℕ) (fs : List (Frame A)) → On all room fs (Visit k) → After all room (left xs fs (Visit k)) (awaiting k (nodes xs k) fs) (visiting m read k (nodes xs k))
    visits k fs o = by (nodes xs k) refl
      where
        here : (p : Placed (Held T)) → filter_at xs k ≡ p → Here k fs p
        here p e = subst (Here k fs) e (record { gives = o.gives; fits = o.fits; same = refl })

        by : (x : Form (Held T)) → nodes xs k ≡ x → After all room (left xs fs (Visit k)) (awaiting k x fs) (visiting m read k x)
        by (always b) e =
            let h = here (constant_at k b) (at_always (nodes xs) k b e) in
            let f = h.fits in let s = h.same in
            rises fs (left xs fs (Visit k)) (at_node k (m.always b)) h.gives (omega arith) o.ready (omega arith)
        by (test c) e =
            let h = here (condition_at k c) (at_test (nodes xs) k c e) in
            let f = h.fits in let s = h.same in
            rises fs (left xs fs (Visit k)) (at_node k (m.on (read c))) h.gives (omega arith) o.ready (omega arith)
        by (both l r) e =
            let w = two_and xs k l r e o.next in
            let h = here (and_node_at k (filter_at xs l) (filter_at xs r)) (at_both (nodes xs) k l r e w.left w.right) in
            let f = h.fits in let s = h.same in
            (record { gives = h.gives; fits = omega arith; ready = (w.second, o.ready); next = w.first }, omega arith)
        by (either l r) e =
            let w = two_or xs k l r e o.next in
            let h = here (or_node_at k (filter_at xs l) (filter_at xs r)) (at_either (nodes xs) k l r e w.left w.right) in
            let f = h.fits in let s = h.same in
            (record { gives = h.gives; fits = omega arith; ready = (w.second, o.ready); next = w.first }, omega arith)
        by (other i) e =
            let w = one_not xs k i e o.next in
            let h = here (not_node_at k (filter_at xs i)) (at_other (nodes xs) k i e w.under) in
            let f = h.fits in let s = h.same in
            (record { gives = h.gives; fits = omega arith; ready = o.ready; next = w.whole }, omega arith)

    pub resumes : (x : A) (f : Frame A) (fs : List (Frame A)) → On all room (f ∷ fs) (Answer x) → After all room (left xs (f ∷ fs) (Answer x)) (remaining x f fs) (resuming m x f)
    resumes x (Left n j k) fs o =
        let h = o.fits in
        (record { gives = o.gives; fits = omega arith; ready = o.ready.1; next = o.ready.0 }, omega arith)
    resumes x (Right n j l) fs o = let h = o.fits in rises fs (left xs (Right n j l ∷ fs) (Answer x)) (at_node n (joined m j l x)) o.gives (omega arith) o.ready (omega arith)
    resumes x (Not n) fs o = let h = o.fits in rises fs (left xs (Not n ∷ fs) (Answer x)) (at_node n (m.other x)) o.gives (omega arith) o.ready (omega arith)

-- the turns, as the code goes: n frames of a table wait
pub record Standing {A C T : Type 0} (m : Meaning A Fault C) (read : Held T → C) (xs : List (Slot T)) (all : Result A Refused) (cells : List (Frame A)) (n : ℕ) (t : Turn A) : Type 0 where
  pub on : On m read xs all (length cells) (stacked cells n) t

module _ {A C T : Type 0} {m : Meaning A Fault C} {read : Held T → C} {xs : List (Slot T)} {all : Result A Refused} {cells : List (Frame A)} {n : ℕ} {t : Turn A} (o : Standing m read xs all cells n t) where
  pub pops_inside : n ≤ length cells
  pops_inside = let f = frames_few xs (stacked cells n) in let l = stacked_length cells n in let h = o.on.fits in omega arith

  pub visits_inside : {k : ℕ} → t ≡ Visit k → n < length cells
  visits_inside {k} e =
      let h = (subst (On m read xs all (length cells) (stacked cells n)) e o.on).fits in
      let f = frames_few xs (stacked cells n) in let l = stacked_length cells n in let s = some_size (filter_at xs k) in omega arith

  pub resumes_inside : (f : Frame A) (after : List (Frame A)) (i : ℕ) → stacked cells n ≡ f ∷ stacked after i → length after ≡ length cells → i < length after
  resumes_inside f after i e l =
      let u = ap length e in let v = stacked_length cells n in let w = stacked_length after i in
      let h = pops_inside in omega arith

  -- the next turn of the table, or a refusal
  abbrev pub Goes : (after : List (Frame A)) (k : ℕ) → Result (Turn A) Refused → Type 0
  Goes after k (Ok u) = Standing m read xs all after k u × (left xs (stacked after k) u < left xs (stacked cells n) t)
  Goes after k (Err e) = Err e ≡ all

  goes : (after : List (Frame A)) (k : ℕ) (r : Result (Turn A) Refused) → length after ≡ length cells → After m read xs all (length cells) (left xs (stacked cells n) t) (stacked after k) r → Goes after k r
  goes after k (Ok u) l h = (record { on = subst (λ j. On m read xs all j (stacked after k) u) (sym l) h.0 }, h.1)
  goes after k (Err e) l h = h

  pub visits_next : {k : ℕ} (after : List (Frame A)) (i : ℕ) (r : Result (Turn A) Refused) → t ≡ Visit k → r ≡ visiting m read k (nodes xs k) → stacked after i ≡ awaiting k (nodes xs k) (stacked cells n) → length after ≡ length cells → Goes after i r
  visits_next {k} after i r e er ef el =
      goes after i r el (rw (ef, er, e) (visits m read xs all (length cells) k (stacked cells n) (subst (On m read xs all (length cells) (stacked cells n)) e o.on)))

  pub resumes_next : {x : A} {f : Frame A} {rest : List (Frame A)} (after : List (Frame A)) (i : ℕ) (r : Result (Turn A) Refused) → t ≡ Answer x → stacked cells n ≡ f ∷ rest → r ≡ resuming m x f → stacked after i ≡ remaining x f rest → length after ≡ length cells → Goes after i r
  resumes_next {x} {f} {rest} after i r e ep er ef el =
      goes after i r el (rw (ef, er, ep, e) (resumes m read xs all (length cells) x f rest (subst (λ u. On m read xs all (length cells) u (Answer x)) ep (subst (On m read xs all (length cells) (stacked cells n)) e o.on))))
