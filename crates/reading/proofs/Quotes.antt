-- Words between quotes, and bare ones.
use Rattle.std.proofs.Common.{◌≡◌, ℕ, zero, suc, ◌+◌, ◌-◌, ◌<◌, ◌≤◌, Bool, true, false, not, ◌&&◌, eqb, ltb, List, [], ◌∷◌, ◌++◌, length, get_or, take, drop, sym, refl, ap, ◌∙◌, inl, inr, arith, length-append, length-take}
use Rattle.std.proofs.lemmas.List.{take_all, take-take, take_more, drop-drop, append_cancel_right, get_or_at}
use Rattle.std.proofs.lemmas.Bool.{cases_Bool, and_parts, and_from, false≢true, eq-eqb, eqb-true, lt-ltb, ltb-true, leb-true, le-leb}
use Rattle.std.specs.Bool.{then_some}
use Rattle.std.specs.List.{list_any}
use Rattle.values.specs.declared.literals.Span.{Span}
use Rattle.values.specs.Contents.{bytes_at}
use Rattle.reading.specs.Literals.{quoteless, enclosed}
use Rattle.reading.specs.Placed.{TextRead}

-- no byte is a quote
pub none_is_quote : (t : List ℕ) → not (list_any (λ c. eqb c 34) t) ≡ quoteless t
none_is_quote [] = refl
none_is_quote (c ∷ cs) = elim (cases_Bool (eqb c 34)) [ inl b ↦ simp b refl | inr b ↦ simp b (none_is_quote cs) ]

-- the parts of an enclosed text
split : (t : List ℕ) → 1 < length t → get_or t 0 0 ≡ 34 → get_or t (length t - 1) 0 ≡ 34 → t ≡ 34 ∷ (take (length t - 2) (drop 1 t) ++ (34 ∷ []))
split [] l f e = absurd (omega arith)
split (c ∷ []) l f e = absurd (omega arith)
split (c ∷ d ∷ ds) l f e =
    let n = length ds in
    let two : suc (suc n) - 2 ≡ n = omega arith in
    let one : suc (suc n) - 1 ≡ suc n = omega arith in
    let last : get_or (d ∷ ds) n 0 ≡ 34 = ap (λ (k : ℕ). get_or (c ∷ d ∷ ds) k 0) (sym one) ∙ e in
    let rest : ◌≡◌ {A = List ℕ} (d ∷ ds) (take n (d ∷ ds) ++ (34 ∷ [])) =
    sym (take_all (n + 1) (d ∷ ds) (omega arith)) ∙ take_more (d ∷ ds) n 0 (omega arith) ∙ ap (λ (x : ℕ). take n (d ∷ ds) ++ (x ∷ [])) last in
    rw two (ap (λ (x : ℕ). x ∷ d ∷ ds) f ∙ ap (λ (xs : List ℕ). 34 ∷ xs) rest)

middle : (xs : List ℕ) (len : ℕ) → 1 < length (take len xs) → take (length (take len xs) - 2) (drop 1 (take len xs)) ≡ take (length (take len xs) - 2) (drop 1 xs)
middle xs zero l = absurd (omega arith)
middle [] (suc m) l = absurd (omega arith)
middle (x ∷ xs) (suc m) l = take-take (suc (length (take m xs)) - 2) m xs (omega (arith, length-take m xs))

pub shorter : (line t : List ℕ) (w : Span) → t ≡ bytes_at line w → length t ≤ w.len
shorter line t w e = omega (arith, ap length e, length-take w.len (drop w.start line))

pub long : (t : List ℕ) → true ≡ enclosed t → 1 < length t
long t h = ltb-true 1 (length t) (and_parts (ltb 1 (length t)) (eqb (get_or t 0 0) 34 && eqb (get_or t (length t - 1) 0) 34) (sym h)).0

-- what lies between the quotes, as a place in the line
inner : (line t : List ℕ) (w s : Span) → t ≡ bytes_at line w → true ≡ enclosed t → s.start ≡ w.start + 1 → s.len ≡ length t - 2
    → t ≡ 34 ∷ (bytes_at line s ++ (34 ∷ []))
inner line t w s e h p q =
    let a = and_parts (ltb 1 (length t)) (eqb (get_or t 0 0) 34 && eqb (get_or t (length t - 1) 0) 34) (sym h) in
    let b = and_parts (eqb (get_or t 0 0) 34) (eqb (get_or t (length t - 1) 0) 34) a.1 in
    let l = long t h in
    let m : take (length t - 2) (drop 1 t) ≡ take (length t - 2) (drop (w.start + 1) line) =
    rw e (middle (drop w.start line) w.len (rw e at l) ∙ ap (take (length (bytes_at line w) - 2)) (drop-drop 1 w.start line)) in
    let i : take (length t - 2) (drop (w.start + 1) line) ≡ bytes_at line s = rw (p, q) refl in
    split t l (eqb-true (get_or t 0 0) 34 b.0) (eqb-true (get_or t (length t - 1) 0) 34 b.1) ∙ ap (λ (x : List ℕ). 34 ∷ (x ++ (34 ∷ []))) (m ∙ i)

pub read_quoted : (line t u : List ℕ) (w s : Span) (q : Bool) → t ≡ bytes_at line w → true ≡ enclosed t → s.start ≡ w.start + 1 → s.len ≡ length t - 2
    → u ≡ bytes_at line s → q ≡ quoteless u → TextRead line w (then_some q s)
read_quoted line t u w s true e h p q f n =
    let l = long t h in
    let k = shorter line t w e in
    ((sym (n ∙ ap quoteless f), inr (sym e ∙ inner line t w s e h p q)), λ o. let b = leb-true (w.start + w.len) (length line) o in le-leb (s.start + s.len) (length line) (omega arith))
read_quoted line t u w s false e h p q f n = λ x v.
    let i = sym e ∙ inner line t w s e h p q in
    elim v.1 [
      | inl g ↦ false≢true (sym (ap quoteless (sym g ∙ i)) ∙ v.0)
      | inr g ↦
          (let same : x ≡ bytes_at line s = append_cancel_right x (bytes_at line s) (34 ∷ []) (ap (drop 1) (sym g ∙ i)) in
          false≢true (n ∙ ap quoteless (f ∙ sym same) ∙ v.0))
    ]

-- a text between quotes is enclosed
enclosing : (x : List ℕ) → enclosed (34 ∷ (x ++ (34 ∷ []))) ≡ true
enclosing x =
    let n = length-append x (34 ∷ []) in
    let last : suc (length (x ++ (34 ∷ []))) - 1 ≡ suc (length x) = omega arith in
    let byte : get_or (34 ∷ (x ++ (34 ∷ []))) (suc (length (x ++ (34 ∷ []))) - 1) 0 ≡ 34 =
    ap (λ (k : ℕ). get_or (34 ∷ (x ++ (34 ∷ []))) k 0) last ∙ get_or_at x 34 [] 0 (length x) refl in
    and_from _ _ (lt-ltb 1 (suc (length (x ++ (34 ∷ [])))) (omega arith)) (and_from _ _ refl (eq-eqb _ 34 byte))

pub read_bare : (line t : List ℕ) (w : Span) (q : Bool) → t ≡ bytes_at line w → false ≡ enclosed t → q ≡ quoteless (bytes_at line w) → TextRead line w (then_some q w)
read_bare line t w true e h n = ((sym n, inl refl), λ o. o)
read_bare line t w false e h n = λ x v.
    elim v.1 [
      | inl g ↦ false≢true (n ∙ ap quoteless g ∙ v.0)
      | inr g ↦ false≢true (h ∙ ap enclosed (e ∙ g) ∙ enclosing x)
    ]
