-- The lists of the fields before one, to which it is offered.
use Rattle.std.proofs.Common.{◌≡◌, ℕ, zero, suc, ◌<◌, Bool, true, false, cond, List, [], ◌∷◌, length, get_or, take, Decides, eqb, refl, ap, ◌∙◌, ⊎_elim, arith}
use Rattle.std.proofs.lemmas.List.{get_or-take, length-take-le}
use Rattle.std.proofs.lemmas.Slice.Eq.{bytes_eq-Decides}
use Rattle.std.proofs.lemmas.Bool.Decides.{Decides-eqb}
use Rattle.std.specs.Str.{bytes_eq}
use Rattle.schema.specs.declared.fields.Field.{Field}
use Rattle.schema.specs.Lines.{field_at}
use Rattle.schema.specs.Listed.{ListedNumbers, Listed}
use Rattle.schema.specs.Names.{full_name}
use Rattle.schema.specs.Rules.{NewNumber, NewName}
use Rattle.std.proofs.lemmas.Bool.{both_ways, cases_Bool, le-leb, lt-ltb, or_parts, or_cases}
use Rattle.lists.specs.declared.list.Offered.{Offered}
use Rattle.lists.specs.declared.list.Offered.TheVariants.{Kept, Dropped, Full}
use Rattle.lists.specs.contracts.list.Offered.{the_type}
use denote.Enum.Bare.{sameb}
use Rattle.schema.proofs.Decisions.{never}
use Rattle.lists.proofs.Runs.{from_zero}
use Rattle.lists.specs.Keep.{against, offered}

-- an element that passes against none of a list
against-none : (p : ℕ → ℕ → Bool) (xs : List ℕ) (x k : ℕ) → against p xs x ≡ false → k < length xs → p (get_or xs k 0) x ≡ true → ⊥
against-none p [] x k e h t = omega arith
against-none p (y ∷ ys) x zero e h t = both_ways (p y x) (or_parts (p y x) (against p ys x) e).0 t
against-none p (y ∷ ys) x (suc k) e h t = against-none p ys x k (or_parts (p y x) (against p ys x) e).1 (omega arith) t

-- one that passes against some
against-some : (p : ℕ → ℕ → Bool) (xs : List ℕ) (x : ℕ) → against p xs x ≡ true → (k : ℕ) × (k < length xs) × (p (get_or xs k 0) x ≡ true)
against-some p [] x e = absurd (both_ways false refl e)
against-some p (y ∷ ys) x e =
    ⊎_elim
    (λ t. (0, omega arith, t))
    (λ t. let later = against-some p ys x t in (suc later.0, omega (arith, later.1), later.2))
    (or_cases (p y x) (against p ys x) e)

-- where the list has room, an element that equals none of it is kept
answer : (p : ℕ → ℕ → Bool) (items : List ℕ) (i x : ℕ) → i < length items → offered p items 0 i x ≡ cond (against p (take i items) x) Dropped Kept
answer p items i x h = rw (from_zero items i, le-leb 0 i (omega arith), lt-ltb i (length items) h) refl

-- `f` of each number below i stands in the list: then an offer of that of i tells whether `Same` holds of one before it
kept_new : (f : ℕ → ℕ) (p : ℕ → ℕ → Bool) (Same : ℕ → Type 0) (items : List ℕ) (i : ℕ) → ((j : ℕ) → Decides (p (f j) (f i)) (Same j)) → ((j : ℕ) → j < i → get_or items j 0 ≡ f j) → i < length items → (x : ℕ) → x ≡ f i → Kept ≡ offered p items 0 i x → (j : ℕ) → j < i → Same j → ⊥
kept_new f p Same items i decides listed h x e o j l s =
    let short : length (take i items) ≡ i = length-take-le i items (omega arith) in
    against-none p (take i items) (f i) j (is_kept (against p (take i items) (f i)) (o ∙ ap (offered p items 0 i) e ∙ answer p items i (f i) h)) (omega arith) (rw (get_or-take i items j 0 l, listed j l) ((decides j).1 s))
  where
    is_kept : (b : Bool) → Kept ≡ cond b Dropped Kept → b ≡ false
    is_kept true e = cc
    is_kept false e = refl

refused_old : (f : ℕ → ℕ) (p : ℕ → ℕ → Bool) (Same : ℕ → Type 0) (items : List ℕ) (i : ℕ) (o : Offered) → ((j : ℕ) → Decides (p (f j) (f i)) (Same j)) → ((j : ℕ) → j < i → get_or items j 0 ≡ f j) → i < length items → (x : ℕ) → x ≡ f i → o ≡ offered p items 0 i x → (o ≡ Kept → ⊥) → ((j : ℕ) → j < i → Same j → ⊥) → ⊥
refused_old f p Same items i o decides listed h x is e lost new =
    let short : length (take i items) ≡ i = length-take-le i items (omega arith) in
    ⊎_elim
    (λ (t : against p (take i items) (f i) ≡ true).
    let old = against-some p (take i items) (f i) t in
    let l : old.0 < i = omega (arith, old.1) in
    new old.0 l ((decides old.0).0 (rw (get_or-take i items old.0 0 l, listed old.0 l) at old.2)))
    (λ (t : against p (take i items) (f i) ≡ false). lost (e ∙ ap (offered p items 0 i) is ∙ answer p items i (f i) h ∙ ap (λ b. cond b Dropped Kept) t))
    (cases_Bool (against p (take i items) (f i)))

-- so the answer to the offer decides it
offered_new : (f : ℕ → ℕ) (p : ℕ → ℕ → Bool) (Same : ℕ → Type 0) (items : List ℕ) (i : ℕ) (o : Offered) → ((j : ℕ) → Decides (p (f j) (f i)) (Same j)) → ((j : ℕ) → j < i → get_or items j 0 ≡ f j) → i < length items → (x : ℕ) → x ≡ f i → o ≡ offered p items 0 i x → Decides (sameb the_type o Kept) ((j : ℕ) → j < i → Same j → ⊥)
offered_new f p Same items i Kept decides listed h x e is = (λ _. kept_new f p Same items i decides listed h x e is, λ _. refl)
offered_new f p Same items i Dropped decides listed h x e is = never (refused_old f p Same items i Dropped decides listed h x e is (λ lost. cc))
offered_new f p Same items i Full decides listed h x e is = never (refused_old f p Same items i Full decides listed h x e is (λ lost. cc))

pub number_new : (fs : List Field) (i : ℕ) (numbers : List ℕ) (o : Offered) (x : ℕ) → ListedNumbers fs i numbers → i < length numbers → x ≡ (field_at fs i).number → o ≡ offered eqb numbers 0 i x → Decides (sameb the_type o Kept) (NewNumber fs i)
number_new fs i numbers o x listed h e is =
    let number = λ (j : ℕ). (field_at fs j).number in
    offered_new number eqb (λ j. number j ≡ number i) numbers i o (λ j. Decides-eqb (number j) (number i)) listed h x e is

pub name_new : (fs : List Field) (t : List ℕ) (i : ℕ) (names : List ℕ) (o : Offered) → Listed i names → i < length names → o ≡ offered (λ j k. bytes_eq (full_name fs t j) (full_name fs t k)) names 0 i i → Decides (sameb the_type o Kept) (NewName fs t i)
name_new fs t i names o listed h is =
    let name = full_name fs t in
    offered_new (λ j. j) (λ j k. bytes_eq (name j) (name k)) (λ j. name j ≡ name i) names i o (λ j. bytes_eq-Decides (name j) (name i)) listed h i refl is
