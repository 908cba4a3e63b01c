-- Words, byte by byte.
use Rattle.std.proofs.Common.{◌≡◌, ℕ, suc, ◌+◌, ◌-◌, ◌<◌, ◌≤◌, Bool, true, false, not, ◌&&◌, ltb, List, [], ◌∷◌, length, get_or, take, drop, Some, None, Option, sym, refl, ap, ◌∙◌, inl, inr, add-zero, arith, length-drop, get_or-drop}
use Rattle.std.specs.List.{fold, position, position_or_len}
use Rattle.std.proofs.lemmas.List.{at_drop_more, at_drop_all, drop-drop, take_all}
use Rattle.std.proofs.lemmas.List.Sums.{passes_at_first}
use Rattle.std.proofs.lemmas.Bool.{cases_Bool, cases_lt, cond-true, cond-false, le-leb, lt-ltb, ltb-true, and_parts, and_left, not-true}
use Rattle.std.proofs.lemmas.Option.{cond_some, none-some}
use Rattle.reading.specs.Words.{blank, turned, left_open, front, Word, between, inside, words_on, words_from}
use Rattle.reading.specs.NextWord.{word_at, Found, words_left, Steps}
use Rattle.reading.specs.declared.words.Word.{Word as Placed}
use Rattle.reading.specs.declared.words.Words.{Words}
use Rattle.std.specs.Iterator.{MakesProgress, item_count}

-- how many blanks stand before the first other byte
abbrev gap : List ℕ → ℕ
gap t = position_or_len (λ b. not (blank b)) t

-- blanks between words are passed
past_blanks : (n : ℕ) (t : List ℕ) → words_on between n t ≡ words_on between (n + gap t) (drop (gap t) t)
past_blanks n [] = refl
past_blanks n (c ∷ cs) =
    elim (cases_Bool (blank c)) [
      | inl b ↦
          (let m = gap cs in
          let e : n + 1 + m ≡ n + suc m = omega arith in
          let one : suc m ≡ 1 + m = omega arith in
          simp b (past_blanks (n + 1) cs ∙ ap (λ (k : ℕ). words_on between k (drop m cs)) e ∙ ap (λ (k : ℕ). words_on between (n + k) (drop k (c ∷ cs))) one))
      | inr b ↦ simp b (simp add-zero)
    ]

-- one byte more of a word
pub front_more : (line : List ℕ) (n : ℕ) (quoted : Bool) → n < length line → (blank (get_or line n 0) && not quoted) ≡ false
    → length (front quoted (drop n line)) ≡ suc (length (front (turned (get_or line n 0) quoted) (drop (n + 1) line)))
front_more line n quoted h b =
    ap length (at_drop_more (front quoted) line n 0 h ∙ cond-false (blank (get_or line n 0) && not quoted) _ _ b)

-- the word's end
pub front_end : (line : List ℕ) (n : ℕ) (quoted : Bool) → n < length line → (blank (get_or line n 0) && not quoted) ≡ true → length (front quoted (drop n line)) ≡ 0
front_end line n quoted h b =
    ap length (at_drop_more (front quoted) line n 0 h ∙ cond-true (blank (get_or line n 0) && not quoted) _ _ b)

taken : (quoted : Bool) (t : List ℕ) → take (length (front quoted t)) t ≡ front quoted t
taken quoted [] = refl
taken quoted (c ∷ cs) =
    elim (cases_Bool (blank c && not quoted)) [
      | inl b ↦ simp b
      | inr b ↦ simp b (ap (λ xs. c ∷ xs) (taken (turned c quoted) cs))
    ]

within_text : (quoted : Bool) (t : List ℕ) → length (front quoted t) ≤ length t
within_text quoted [] = omega arith
within_text quoted (c ∷ cs) =
    elim (cases_Bool (blank c && not quoted)) [
      | inl b ↦ simp b (omega arith)
      | inr b ↦ let h = within_text (turned c quoted) cs in simp b (omega arith)
    ]

-- the words behind the one that is being read
behind : (quoted : Bool) (n : ℕ) (t : List ℕ) → words_on (inside quoted) n t ≡ words_on between (n + length (front quoted t)) (drop (length (front quoted t)) t)
behind quoted n [] = refl
behind quoted n (c ∷ cs) =
    elim (cases_Bool (blank c && not quoted)) [
      | inl b ↦ (let bl : blank c ≡ true = (and_parts (blank c) (not quoted) b).0 in simp b (simp (bl, add-zero)))
      | inr b ↦
          (let m = length (front (turned c quoted) cs) in
          let e : n + 1 + m ≡ n + suc m = omega arith in
          simp b (behind (turned c quoted) (n + 1) cs ∙ ap (λ (k : ℕ). words_on between k (drop m cs)) e))
    ]

-- the first word that begins at a place that holds no blank
found : (line : List ℕ) (n start len : ℕ) → start < length line → blank (get_or line start 0) ≡ false → words_from line start ≡ words_from line n
    → len ≡ length (front false (drop start line)) → Found line n (record { start = start; len = len })
found line n start len h b e l =
    let byte = get_or line start 0 in
    let rest = drop (start + 1) line in
    let stays : (blank byte && not false) ≡ false = and_left (blank byte) (not false) b in
    let word : List ℕ → Word = λ t. record { place = start; text = t } in
    let text : front false (byte ∷ rest) ≡ take len (drop start line) =
    sym (at_drop_more (front false) line start 0 h) ∙ sym (taken false (drop start line)) ∙ ap (λ (k : ℕ). take k (drop start line)) (sym l) in
    let others : words_on (inside (turned byte false)) (start + 1) rest ≡ words_from line (start + len) =
    sym (at_drop_more (words_on (inside false) start) line start 0 h ∙ cond-false (blank byte && not false) _ _ stays)
    ∙ behind false start (drop start line)
    ∙ ap (λ (k : ℕ). words_on between (start + k) (drop k (drop start line))) (sym l)
    ∙ ap (words_on between (start + len)) (drop-drop len start line) in
    let longer : 0 < length (front false (drop start line)) = omega (arith, front_more line start false h stays) in
    let bound : length (front false (drop start line)) ≤ length line - start = rw length-drop at (within_text false (drop start line)) in
    record {
      first =
          sym e
          ∙ (at_drop_more (words_on between start) line start 0 h ∙ cond-false (blank byte) _ _ b)
          ∙ ap (λ (t : List ℕ). word t ∷ words_on (inside (turned byte false)) (start + 1) rest) text
          ∙ ap (λ (ws : List Word). word (take len (drop start line)) ∷ ws) others;
      some = omega arith;
      within = le-leb (start + len) (length line) (omega arith);
    }

-- what stands from a place on
from_place : {X : Type 0} (xs : List X) (n : ℕ) → take (length xs - n) (drop n xs) ≡ drop n xs
from_place xs n = take_all (length xs - n) (drop n xs) (omega (arith, length-drop n xs))

-- the first word from a place on, behind the blanks
pub next_found : (line rest : List ℕ) (n i len : ℕ) → rest ≡ take (length line - n) (drop n line) → Some i ≡ position (λ b. not (blank b)) rest
    → len ≡ length (front false (take (length line - (n + i)) (drop (n + i) line))) → Found line n (record { start = n + i; len = len })
next_found line rest n i len e p l =
    let q = cond_some (ltb (gap rest) (length rest)) (gap rest) i (sym p) in
    let from : rest ≡ drop n line = e ∙ from_place line n in
    let within = ltb-true (gap rest) (length rest) q.0 in
    let at_rest : blank (get_or rest i 0) ≡ false = rw (← q.1) (not-true _ (passes_at_first (λ b. not (blank b)) rest 0 within)) in
    let same : get_or rest i 0 ≡ get_or line (n + i) 0 = ap (λ (t : List ℕ). get_or t i 0) from ∙ get_or-drop n line i 0 in
    let words : words_from line (n + i) ≡ words_from line n =
    sym (ap (words_on between n) (sym from) ∙ past_blanks n rest ∙ rw q.1 (ap (λ (t : List ℕ). words_on between (n + i) (drop i t)) from ∙ ap (words_on between (n + i)) (drop-drop i n line))) in
    found line n (n + i) len (omega (arith, ap length from, length-drop n line, q.1)) (ap blank (sym same) ∙ at_rest) words (l ∙ ap (λ (t : List ℕ). length (front false t)) (from_place line (n + i)))

pub next_none : (line rest : List ℕ) (n : ℕ) → rest ≡ take (length line - n) (drop n line) → None ≡ position (λ b. not (blank b)) rest → words_from line n ≡ []
next_none line rest n e p =
    elim (cases_lt (gap rest) (length rest)) [
      | inl l ↦ absurd (none-some (gap rest) (p ∙ cond-true (ltb (gap rest) (length rest)) _ _ (lt-ltb (gap rest) (length rest) l)))
      | inr g ↦ ap (words_on between n) (sym (e ∙ from_place line n)) ∙ past_blanks n rest ∙ at_drop_all (words_on between (n + gap rest)) rest (gap rest) g
    ]

-- an open quote is carried along
pub quote_carried : (quoted : Bool) (t : List ℕ) → fold (λ q c. turned c q) quoted t ≡ left_open quoted t
quote_carried quoted [] = refl
quote_carried quoted (c ∷ cs) = quote_carried (turned c quoted) cs

-- one word fewer is left
pub one_fewer : (s t : Words) (r : Option Placed) → Steps s r t → MakesProgress (λ _. Unit {0}) (item_count words_left) s r t
one_fewer s t None h = record { on = λ _. tt; keeps = tt; rests = λ f. f }
one_fewer s t (Some w) h =
    let left : words_from s.line.now s.at ≡ word_at s.line.now w.place ∷ words_from t.line.now t.at = h.0.first ∙ rw (h.1.1.0, h.1.1.1) refl in
    record { on = λ f. (tt, f, omega (arith, ap length left)); keeps = tt; rests = λ f. tt }
