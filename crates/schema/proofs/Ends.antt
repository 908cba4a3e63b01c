-- Names read from their ends.
use Rattle.std.proofs.Common.{◌≡◌, ℕ, Bool, true, false, eqb, eq-eqb, List, [], ◌∷◌, ◌++◌, map, reverse, length, get_or, Some, None, Decides, Option, sym, refl, ap, ◌∙◌, arith, MatchOption, IfSome}
use Rattle.std.proofs.lemmas.Slice.Eq.{bytes_eq-Decides}
use Rattle.std.proofs.lemmas.List.{append-nil, append_assoc, get_or_default, map_push, reverse-append, reverse-reverse}
use Rattle.std.proofs.lemmas.List.Elements.{same_from_all_zip}
use Rattle.std.proofs.lemmas.Bool.{both_ways, eqb-true}
use Rattle.std.proofs.lemmas.Bool.Decides.{same_from_decides}
use Rattle.std.proofs.lemmas.Iterator.{YieldsList}
use Rattle.std.proofs.lemmas.Iterator.Consumers.{YieldsList-at, YieldsList-from_shown, YieldsList-turn, YieldsList-end}
use Rattle.std.specs.Iterator.{YieldsLast, ComparesItemsByEq}
use Rattle.std.specs.Str.{bytes_eq}
use Rattle.schema.specs.declared.fields.Field.{Field}
use Rattle.schema.specs.declared.names.Case.{Case}
use Rattle.schema.specs.declared.names.Case.TheVariants.{Sensitive, Insensitive}
use Rattle.schema.specs.declared.names.Tail.{Tail}
use Rattle.schema.specs.Lines.{parent_of, above, line}
use Rattle.schema.specs.Names.{after_dots, dotted, own_name, full_name, lowered, letter, spelled, before, rest}
use Rattle.schema.proofs.Decisions.{never}
use Rattle.schema.proofs.Walks.{line_step}

after_dots_push : (ns : List (List ℕ)) (y : List ℕ) → after_dots (ns ++ (y ∷ [])) ≡ after_dots ns ++ (46 ∷ y)
after_dots_push [] y = ap (λ n. 46 ∷ n) (append-nil y)
after_dots_push (n ∷ ns) y = ap (λ m. 46 ∷ m) (ap (λ m. n ++ m) (after_dots_push ns y) ∙ sym (append_assoc n (after_dots ns) (46 ∷ y)))

dotted_push : (ns : List (List ℕ)) (x y : List ℕ) → dotted ((ns ++ (x ∷ [])) ++ (y ∷ [])) ≡ dotted (ns ++ (x ∷ [])) ++ (46 ∷ y)
dotted_push [] x y = ap (λ m. x ++ m) (after_dots_push [] y) ∙ ap (λ m. m ++ (46 ∷ y)) (sym (append-nil x))
dotted_push (n ∷ ns) x y = ap (λ m. n ++ m) (after_dots_push (ns ++ (x ∷ [])) y) ∙ sym (append_assoc n (after_dots (ns ++ (x ∷ []))) (46 ∷ y))

-- a field's full name is what stands before its own name, and that
pub name_step : (fs : List Field) (t : List ℕ) (i : ℕ) → before fs t (parent_of fs i) ++ own_name fs t i ≡ full_name fs t i
name_step fs t i = sym (ap (λ is. dotted (map own is)) (line_step fs i) ∙ go (parent_of fs i))
  where
    own : ℕ → List ℕ
    own = own_name fs t

    go : (o : Option ℕ) → dotted (map own (above o (line fs) ++ (i ∷ []))) ≡ before fs t o ++ own i
    go None = append-nil (own i)
    go (Some p) =
        let to_p : map own (line fs p) ≡ map own (above (parent_of fs p) (line fs)) ++ (own p ∷ []) = ap (map own) (line_step fs p) ∙ map_push own (above (parent_of fs p) (line fs)) p in
        ap dotted (map_push own (line fs p) i ∙ ap (λ ns. ns ++ (own i ∷ [])) to_p)
        ∙ dotted_push (map own (above (parent_of fs p) (line fs))) (own p) (own i)
        ∙ ap (λ ns. dotted ns ++ (46 ∷ own i)) (sym to_p)
        ∙ sym (append_assoc (full_name fs t p) (46 ∷ []) (own i))

-- what is left of a name, the last byte first
pub yields_back : (s : Tail) → YieldsList (YieldsLast rest) (λ x. x) s (reverse (rest s))
yields_back s =
    YieldsList-from_shown (YieldsLast rest) (λ x. x) (λ s. reverse (rest s)) (λ s t h. rw h.0 refl) (λ s x t h. rw h (reverse-append (rest t) (x ∷ []))) s

-- `eq` answers whether two iterators give one list
pub same_from_eq : {S T : Type 0} {steps : S → Option ℕ → S → Type 0} {others : T → Option ℕ → T → Type 0} {s : S} (other : T) (xs ys : List ℕ) (r : Bool) → ComparesItemsByEq steps (λ x y. y ≡ x) others s other eqb r → YieldsList steps (λ x. x) s xs → YieldsList others (λ x. x) other ys → Decides r (xs ≡ ys)
same_from_eq {steps = steps} {others = others} other xs ys r (it, zs, ws, o, p, u, v, b, (t, yields_zs, last_z), (w, yields_ws, last_w), alike, last) e f =
    go o p last_z last_w last
  where
    g : YieldsList others (λ x. x) it ys
    g = YieldsList-at b f

    one : zs ≡ ws
    one = sym (same_from_all_zip _ zs ws alike (λ x y h. sym (eqb-true x y h)))

    go : (o p : Option ℕ) → steps t o u → others w p v → MatchOption o (MatchOption p (r ≡ true) (λ _. r ≡ false)) (λ x. (r ≡ false) × IfSome p (λ y. eqb x y ≡ false)) → Decides r (xs ≡ ys)
    go None None j k h =
        let a = YieldsList-end e zs t yields_zs None u refl j in
        let c = YieldsList-end g ws w yields_ws None v refl k in
        (λ _. sym a.0 ∙ ap (map (λ x. x)) one ∙ c.0, λ _. h)
    go None (Some y) j k h =
        let a = YieldsList-end e zs t yields_zs None u refl j in
        let c = YieldsList-turn g ws w yields_ws (Some y) v y refl k in
        rw h (never (λ same. omega (arith, a.1, c.0, ap length one, ap length same)))
    go (Some x) None j k h =
        let a = YieldsList-turn e zs t yields_zs (Some x) u x refl j in
        let c = YieldsList-end g ws w yields_ws None v refl k in
        rw h.0 (never (λ same. omega (arith, a.0, c.1, ap length one, ap length same)))
    go (Some x) (Some y) j k h =
        let a = YieldsList-turn e zs t yields_zs (Some x) u x refl j in
        let c = YieldsList-turn g ws w yields_ws (Some y) v y refl k in
        rw h.0
        (never
        (λ same.
        let here : x ≡ y = a.1 ∙ ap (λ is. get_or is (length zs) x) same ∙ ap (λ is. get_or ys (length is) x) one ∙ get_or_default ys (length ws) x y c.0 ∙ sym c.1 in
        both_ways (eqb x y) h.1 (eq-eqb x y here)))

spelled_letters : (c : Case) (n : List ℕ) → map (letter c) n ≡ spelled c n
spelled_letters Sensitive [] = refl
spelled_letters Sensitive (x ∷ n) = ap (λ m. x ∷ m) (spelled_letters Sensitive n)
spelled_letters Insensitive [] = refl
spelled_letters Insensitive (x ∷ n) = ap (λ m. lowered x ∷ m) (spelled_letters Insensitive n)

map-reverse : (f : ℕ → ℕ) (n : List ℕ) → map f (reverse n) ≡ reverse (map f n)
map-reverse f [] = refl
map-reverse f (x ∷ n) =
    ap (map f) (reverse-append (x ∷ []) n)
    ∙ map_push f (reverse n) x
    ∙ ap (λ m. m ++ (f x ∷ [])) (map-reverse f n)
    ∙ sym (reverse-append (f x ∷ []) (map f n))

letters-spelled : (c : Case) (n : List ℕ) → map (letter c) (reverse n) ≡ reverse (spelled c n)
letters-spelled c n = map-reverse (letter c) n ∙ ap reverse (spelled_letters c n)

-- two names are spelled alike if they are from their ends
pub spelled_back : (c : Case) (a b : List ℕ) (r : Bool) → Decides r (map (letter c) (reverse a) ≡ map (letter c) (reverse b)) → Decides r (spelled c a ≡ spelled c b)
spelled_back c a b r d = (
  λ h. sym (reverse-reverse (spelled c a)) ∙ ap reverse (sym (letters-spelled c a) ∙ d.0 h ∙ letters-spelled c b) ∙ reverse-reverse (spelled c b),
  λ e. d.1 (letters-spelled c a ∙ ap reverse e ∙ sym (letters-spelled c b)),
)

-- the test of two names, of which one is known
pub named_as : (c : Case) (a b full name : List ℕ) (r : Bool) → Decides r (spelled c a ≡ spelled c b) → a ≡ full → b ≡ name → r ≡ bytes_eq (spelled c full) (spelled c name)
named_as c a b full name r d e f =
    same_from_decides r (bytes_eq (spelled c full) (spelled c name)) (rw (← e, ← f) d) (bytes_eq-Decides (spelled c full) (spelled c name))
