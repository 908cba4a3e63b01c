-- What each answer of a row of cells comes from.
use Rattle.std.proofs.Common.{◌≡◌, ℕ, ◌+◌, ◌<◌, Bool, true, false, cond, ◌⊎◌, List, [], ◌∷◌, ◌++◌, length, Some, None, Ok, Err, Option, Result, sym, refl, ap, ◌∙◌, subst, inl, inr, append-nil, arith}
use Rattle.std.proofs.lemmas.Bool.{cases_lt, true≢false}
use Rattle.values.specs.declared.kinds.Kind.{Kind}
use Rattle.values.specs.declared.literals.Literal.{Literal}
use Rattle.values.specs.declared.literals.Value.{Value}
use Rattle.values.specs.declared.literals.Value.TheVariants as V
use Rattle.values.specs.declared.refusals.Reason.{Reason}
use Rattle.values.specs.declared.refusals.Reason.TheVariants as R
use Rattle.values.specs.Contents.{content_of, text_inside}
use Rattle.rows.specs.declared.cells.Cell.{Cell}
use Rattle.rows.specs.declared.cells.Cell.TheVariants as C
use Rattle.rows.specs.Reached.{is_extreme}
use Rattle.rows.specs.Cells.{followed, read, read_if}
use Rattle.rows.specs.Paths.{Spot, spot_of, Sound, Leads, here, through, Ends, Meets, PastGroup, Groupless, Unsound, Valueless, Caused}
use Rattle.rows.proofs.Following as following

-- the lookup from a spot
abbrev from_spot : List Cell → Spot → List ℕ → Result Cell Reason
from_spot cells a ps = followed cells a.cell a.after ps

-- it goes on from where the first places lead
goes_on : {cells : List Cell} {a : Spot} {ps : List ℕ} {b : Spot} (rest : List ℕ) → Leads cells a ps b → from_spot cells a (ps ++ rest) ≡ from_spot cells b rest
goes_on rest (here a) = refl
goes_on {cells = cells} rest (through a b start count p ps s h l) = sym (following.in_group cells a.cell a.after start count p (ps ++ rest) s.held s.begins s.ends h) ∙ goes_on rest l

at-ends : (cells : List Cell) (a : Spot) (ps : List ℕ) (x : Cell) → Ends cells a ps x → from_spot cells a ps ≡ Ok x
at-ends cells a ps x e = rw append-nil at (goes_on [] e.led)

at_meeting : (cells : List Cell) (a : Spot) (ps : List ℕ) (b : Spot) (p : ℕ) (m : Meets cells a ps b p) → from_spot cells a ps ≡ from_spot cells b (p ∷ m.later)
at_meeting cells a ps b p m = ap (from_spot cells a) m.split ∙ goes_on (p ∷ m.later) m.led

at-past : (cells : List Cell) (a : Spot) (ps : List ℕ) → PastGroup cells a ps → from_spot cells a ps ≡ Err R.PlacePastGroup
at-past cells a ps w =
    at_meeting cells a ps w.at w.place w.met
    ∙ following.past_group cells w.at.cell w.at.after w.start w.count w.place w.met.later w.sound.held w.sound.begins w.sound.ends w.past

at_groupless : (cells : List Cell) (a : Spot) (ps : List ℕ) → Groupless cells a ps → from_spot cells a ps ≡ Err R.NoGroup
at_groupless cells a ps w = at_meeting cells a ps w.at w.place w.met ∙ following.no_group cells w.at.cell w.at.after w.place w.met.later w.no_group

at-unsound : (cells : List Cell) (a : Spot) (ps : List ℕ) → Unsound cells a ps → from_spot cells a ps ≡ Err R.OutsideRow
at-unsound cells a ps w =
    at_meeting cells a ps w.at w.place w.met
    ∙ following.outside_group cells w.at.cell w.at.after w.start w.count w.place w.met.later w.held
    (λ b e. w.unsound (record { held = w.held; begins = b; ends = e }))

-- how following the places ends: there is no fifth way
data Outcome (cells : List Cell) (a : Spot) (ps : List ℕ) : Type 0 where
  ended : (x : Cell) → Ends cells a ps x → Outcome cells a ps
  past : PastGroup cells a ps → Outcome cells a ps
  groupless : Groupless cells a ps → Outcome cells a ps
  unsound : Unsound cells a ps → Outcome cells a ps

-- the first place is met at once
at_once : (cells : List Cell) (a : Spot) (p : ℕ) (ps : List ℕ) → Meets cells a (p ∷ ps) a p
at_once cells a p ps = record { before = []; later = ps; split = refl; led = here a }

-- what is met after a place in a sound group is met from that group's cell too
later-met : (cells : List Cell) (a : Spot) (start count p : ℕ) (ps : List ℕ) (b : Spot) (q : ℕ) → Sound cells a start count → p < count → Meets cells (spot_of cells (start + p)) ps b q → Meets cells a (p ∷ ps) b q
later-met cells a start count p ps b q s h m =
    record {
      before = p ∷ m.before;
      later = m.later;
      split = ap (λ (qs : List ℕ). p ∷ qs) m.split;
      led = through a b start count p m.before s h m.led;
    }

further : (cells : List Cell) (a : Spot) (start count p : ℕ) (ps : List ℕ) → Sound cells a start count → p < count → Outcome cells (spot_of cells (start + p)) ps → Outcome cells a (p ∷ ps)
further cells a start count p ps s h (ended x e) = ended x (record { after = e.after; led = through a (record { cell = x; after = e.after }) start count p ps s h e.led })
further cells a start count p ps s h (past w) = past (record { at = w.at; place = w.place; start = w.start; count = w.count; met = later-met cells a start count p ps w.at w.place s h w.met; sound = w.sound; past = w.past })
further cells a start count p ps s h (groupless w) = groupless (record { at = w.at; place = w.place; met = later-met cells a start count p ps w.at w.place s h w.met; no_group = w.no_group })
further cells a start count p ps s h (unsound w) = unsound (record { at = w.at; place = w.place; start = w.start; count = w.count; met = later-met cells a start count p ps w.at w.place s h w.met; held = w.held; unsound = w.unsound })

outcome : (cells : List Cell) (ps : List ℕ) (a : Spot) → Outcome cells a ps
outcome cells [] a = ended a.cell (record { after = a.after; led = here a })
outcome cells (p ∷ ps) a = at_cell (λ b. outcome cells ps b) a.cell refl
  where
    no_group_here : ((start count : ℕ) → a.cell ≡ C.Group start count → ⊥) → Outcome cells a (p ∷ ps)
    no_group_here n = groupless (record { at = a; place = p; met = at_once cells a p ps; no_group = n })

    no_sound_group_here : (start count : ℕ) → a.cell ≡ C.Group start count → (Sound cells a start count → ⊥) → Outcome cells a (p ∷ ps)
    no_sound_group_here start count e n = unsound (record { at = a; place = p; start = start; count = count; met = at_once cells a p ps; held = e; unsound = n })

    in_sound_group : ((b : Spot) → Outcome cells b ps) → (start count : ℕ) → Sound cells a start count → Outcome cells a (p ∷ ps)
    in_sound_group go start count s =
        elim (cases_lt p count) [
          | inl h ↦ further cells a start count p ps s h (go (spot_of cells (start + p)))
          | inr h ↦ past (record { at = a; place = p; start = start; count = count; met = at_once cells a p ps; sound = s; past = h })
        ]

    in_group : ((b : Spot) → Outcome cells b ps) → (start count : ℕ) → a.cell ≡ C.Group start count → Outcome cells a (p ∷ ps)
    in_group go start count e =
        elim (cases_lt start a.after) [
          | inl h ↦ no_sound_group_here start count e (λ s. omega (arith, s.begins))
          | inr h ↦
              elim (cases_lt (length cells) (start + count)) [
                | inl g ↦ no_sound_group_here start count e (λ s. omega (arith, s.ends))
                | inr g ↦ in_sound_group go start count (record { held = e; begins = h; ends = g })
              ]
        ]

    at_cell : ((b : Spot) → Outcome cells b ps) → (x : Cell) → a.cell ≡ x → Outcome cells a (p ∷ ps)
    at_cell go C.Null e = no_group_here (λ start count g. let z : ◌≡◌ {A = ℕ} 0 1 = cc in omega arith)
    at_cell go (C.Value v) e = no_group_here (λ start count g. let z : ◌≡◌ {A = ℕ} 0 1 = cc in omega arith)
    at_cell go (C.Group start count) e = in_group go start count e
    at_cell go C.ListOrMap e = no_group_here (λ start count g. let z : ◌≡◌ {A = ℕ} 0 1 = cc in omega arith)

-- the answers with their causes
data Cause (cells : List Cell) (row : Spot) (t places : List ℕ) (k : Kind) : Result (Option Literal) Reason → Type 0 where
  is_absent : Ends cells row places C.Null → Cause cells row t places k (Ok None)
  is_found : (l : Literal) → l.kind ≡ k → Ends cells row places (C.Value l.value) → is_extreme (content_of t l.value) ≡ false → text_inside (length t) l.value ≡ true → Cause cells row t places k (Ok (Some l))
  is_past : PastGroup cells row places → Cause cells row t places k (Err R.PlacePastGroup)
  is_groupless : Groupless cells row places → Cause cells row t places k (Err R.NoGroup)
  is_valueless : (x : Cell) → Ends cells row places x → Valueless t x → Cause cells row t places k (Err R.NoValue)
  is_unsound : Unsound cells row places → Cause cells row t places k (Err R.OutsideRow)
  has_text_outside : (v : Value) → Ends cells row places (C.Value v) → text_inside (length t) v ≡ false → Cause cells row t places k (Err R.OutsideRow)

-- the answer at the end has a cause
read_cause : (cells : List Cell) (row : Spot) (t places : List ℕ) (k : Kind) (x : Cell) → Ends cells row places x → Cause cells row t places k (read t k x)
read_cause cells row t places k C.Null e = is_absent e
read_cause cells row t places k (C.Value v) e = by_extreme (is_extreme (content_of t v)) refl
  where
    by_text : (b : Bool) → text_inside (length t) v ≡ b → is_extreme (content_of t v) ≡ false → Cause cells row t places k (cond b (Ok (Some (record { kind = k; value = v }))) (Err R.OutsideRow))
    by_text true i o = is_found (record { kind = k; value = v }) refl e o i
    by_text false i o = has_text_outside v e i

    by_extreme : (b : Bool) → is_extreme (content_of t v) ≡ b → Cause cells row t places k (cond b (Err R.NoValue) (cond (text_inside (length t) v) (Ok (Some (record { kind = k; value = v }))) (Err R.OutsideRow)))
    by_extreme true o = is_valueless (C.Value v) e o
    by_extreme false o = by_text (text_inside (length t) v) refl o
read_cause cells row t places k (C.Group start count) e = is_valueless (C.Group start count) e tt
read_cause cells row t places k C.ListOrMap e = is_valueless C.ListOrMap e tt

abbrev answer : List Cell → Spot → List ℕ → List ℕ → Kind → Result (Option Literal) Reason
answer cells row t places k = read_if t k (from_spot cells row places)

cause : (cells : List Cell) (row : Spot) (t places : List ℕ) (k : Kind) → Outcome cells row places → Cause cells row t places k (answer cells row t places k)
cause cells row t places k (ended x e) = rw (at-ends cells row places x e) (read_cause cells row t places k x e)
cause cells row t places k (past w) = rw (at-past cells row places w) (is_past w)
cause cells row t places k (groupless w) = rw (at_groupless cells row places w) (is_groupless w)
cause cells row t places k (unsound w) = rw (at-unsound cells row places w) (is_unsound w)

valueless_read : (t : List ℕ) (k : Kind) (x : Cell) → Valueless t x → read t k x ≡ Err R.NoValue
valueless_read t k C.Null n = absurd n
valueless_read t k (C.Value v) n = rw n refl
valueless_read t k (C.Group start count) n = refl
valueless_read t k C.ListOrMap n = refl

-- a value whose text is outside is no extreme
outside-read : (t : List ℕ) (k : Kind) (v : Value) → text_inside (length t) v ≡ false → read t k (C.Value v) ≡ Err R.OutsideRow
outside-read t k (V.Boolean b) n = absurd (true≢false n)
outside-read t k (V.Int i) n = absurd (true≢false n)
outside-read t k (V.Long i) n = absurd (true≢false n)
outside-read t k (V.Float x) n = absurd (true≢false n)
outside-read t k (V.Double x) n = absurd (true≢false n)
outside-read t k (V.String s) n = rw n refl
outside-read t k (V.Binary s) n = rw n refl
outside-read t k V.AboveMax n = absurd (true≢false n)
outside-read t k V.BelowMin n = absurd (true≢false n)

-- a cause has its answer
effect : (cells : List Cell) (row : Spot) (t places : List ℕ) (k : Kind) {r : Result (Option Literal) Reason} → Cause cells row t places k r → answer cells row t places k ≡ r
effect cells row t places k (is_absent e) = ap (read_if t k) (at-ends cells row places C.Null e)
effect cells row t places k (is_found l q e o i) = ap (read_if t k) (at-ends cells row places (C.Value l.value) e) ∙ rw (o, i) (ap (λ (j : Kind). Ok (Some (record { kind = j; value = l.value }))) (sym q))
effect cells row t places k (is_past w) = ap (read_if t k) (at-past cells row places w)
effect cells row t places k (is_groupless w) = ap (read_if t k) (at_groupless cells row places w)
effect cells row t places k (is_valueless x e n) = ap (read_if t k) (at-ends cells row places x e) ∙ valueless_read t k x n
effect cells row t places k (is_unsound w) = ap (read_if t k) (at-unsound cells row places w)
effect cells row t places k (has_text_outside v e n) = ap (read_if t k) (at-ends cells row places (C.Value v) e) ∙ outside-read t k v n

-- an answer has none but its own causes
module _ {cells : List Cell} {row : Spot} {t places : List ℕ} {k : Kind} where
  of_absent : Cause cells row t places k (Ok None) → Ends cells row places C.Null
  of_absent (is_absent e) = e

  of_found : (l : Literal) → Cause cells row t places k (Ok (Some l)) → (l.kind ≡ k) × Ends cells row places (C.Value l.value) × (is_extreme (content_of t l.value) ≡ false) × (text_inside (length t) l.value ≡ true)
  of_found l (is_found _ q e o i) = (q, e, o, i)

  of_past : Cause cells row t places k (Err R.PlacePastGroup) → PastGroup cells row places
  of_past (is_past w) = w

  of_groupless : Cause cells row t places k (Err R.NoGroup) → Groupless cells row places
  of_groupless (is_groupless w) = w

  of_valueless : Cause cells row t places k (Err R.NoValue) → (x : Cell) × Ends cells row places x × Valueless t x
  of_valueless (is_valueless x e n) = (x, e, n)

  of_outside : Cause cells row t places k (Err R.OutsideRow) → Unsound cells row places ⊎ ((v : Value) × Ends cells row places (C.Value v) × (text_inside (length t) v ≡ false))
  of_outside (is_unsound w) = inl w
  of_outside (has_text_outside v e n) = inr (v, e, n)

  of_refusal : {e : Reason} → Cause cells row t places k (Err e) → (e ≡ R.PlacePastGroup) ⊎ ((e ≡ R.NoGroup) ⊎ ((e ≡ R.NoValue) ⊎ (e ≡ R.OutsideRow)))
  of_refusal (is_past w) = inl refl
  of_refusal (is_groupless w) = inr (inl refl)
  of_refusal (is_valueless x e n) = inr (inr (inl refl))
  of_refusal (is_unsound w) = inr (inr (inr refl))
  of_refusal (has_text_outside v e n) = inr (inr (inr refl))

pub caused : (cells : List Cell) (row : Spot) (t places : List ℕ) (k : Kind) (r : Result (Option Literal) Reason) → r ≡ answer cells row t places k → Caused cells row t places k r
caused cells row t places k r e =
    let P : Result (Option Literal) Reason → Type 0 = λ q. Cause cells row t places k q in
    let c : P r = subst P (sym e) (cause cells row t places k (outcome cells places row)) in
    record {
      absent = (λ q. of_absent (subst P q c), λ w. e ∙ effect cells row t places k (is_absent w));
      found = λ l. (λ q. of_found l (subst P q c), λ w. e ∙ effect cells row t places k (is_found l w.0 w.1 w.2 w.3));
      past_group = (λ q. of_past (subst P q c), λ w. e ∙ effect cells row t places k (is_past w));
      no_group = (λ q. of_groupless (subst P q c), λ w. e ∙ effect cells row t places k (is_groupless w));
      no_value = (λ q. of_valueless (subst P q c), λ w. e ∙ effect cells row t places k (is_valueless w.0 w.1 w.2));
      outside = (λ q. of_outside (subst P q c), elim [ inl w ↦ e ∙ effect cells row t places k (is_unsound w) | inr w ↦ e ∙ effect cells row t places k (has_text_outside w.0 w.1 w.2) ]);
      no_other = λ x q. of_refusal (subst P q c);
    }
