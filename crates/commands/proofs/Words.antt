-- One word after another.
use Rattle.std.proofs.Common.{◌≡◌, ℕ, suc, false, List, [], ◌∷◌, length, Some, None, Ok, IsUtf8, Bor, Option, Decides, refl, sym, ap, ◌∙◌, subst, inr, arith}
use Rattle.std.proofs.lemmas.Bool.{false≢true}
use Rattle.nodes.specs.declared.operators.PredicateOperator.{PredicateOperator}
use Rattle.values.specs.declared.literals.Span.{Span}
use Rattle.values.specs.declared.literals.Literal.{Literal}
use Rattle.values.specs.Contents.{bytes_at, datum_of}
use Rattle.reading.specs.declared.words.Words.{Words}
use Rattle.reading.specs.Words.{Word, words_from}
use Rattle.reading.specs.NextWord.{word_at, words_left}
use Rattle.reading.specs.declared.words.Word.{Word as Placed}
use Rattle.std.specs.Option.{MatchOption, unwrap_or}
use Rattle.reading.specs.Writing.{Reads}
use Rattle.reading.specs.Placed.{LiteralRead}
use Rattle.commands.specs.declared.command.Column.{Column}
use Rattle.commands.specs.declared.command.Presence.{Presence}
use Rattle.commands.specs.declared.command.Malformed.{Malformed}
use Rattle.commands.specs.Spelling.{Item, literal, some_literal, literal_items, column, word, presence_text, operator_text, OperatorWord, ColumnWord, Spelt}
use Rattle.commands.specs.Grammar.{Part, the, a_literal, a_column, a_presence, an_operator, literal_parts, Faulty}
use Rattle.commands.specs.Steps.{WordRead, WordFrom, Passed}

pub literal_argument : (line : List ℕ) (s : Span) (r : Option Literal) → LiteralRead line s r → WordRead a_literal literal line s r
literal_argument line s None h = h
literal_argument line s (Some l) h = (λ i. (h.0, h.1 i), λ m. m (datum_of line l) h.0)

pub column_argument : (line t : List ℕ) (s : Span) (c : Column) → t ≡ bytes_at line s → ColumnWord c t → WordRead a_column column line s (Some c)
column_argument line t s c e h = let g : ColumnWord c (bytes_at line s) = rw e at h in (λ i. g, λ m. m c g)

pub presence_argument : (line t : List ℕ) (s : Span) (p : Presence) → t ≡ bytes_at line s → t ≡ presence_text p → WordRead a_presence (λ q. word (presence_text q)) line s (Some p)
presence_argument line t s p e h = (λ i. sym e ∙ h, λ m. m p (sym e ∙ h))

nil_is_no_cons : (c : ℕ) (cs : List ℕ) → ◌≡◌ {A = List ℕ} [] (c ∷ cs) → ⊥
nil_is_no_cons c cs e = let l : 0 ≡ suc (length cs) = ap length e in omega arith

-- what a word spells, if its text is read, and nothing else stands for what is no text
pub named_or : (line t : List ℕ) (s : Span) (o : Option (Bor (List ℕ))) (d n : Bor (List ℕ)) (c : ℕ) (cs : List ℕ) → t ≡ bytes_at line s → n ≡ unwrap_or o d → d.now ≡ []
    → MatchOption o (IsUtf8 t → ⊥) (λ x. x.now ≡ t) → n.now ≡ c ∷ cs → bytes_at line s ≡ c ∷ cs
named_or line t s None d n c cs e k z h is = absurd (nil_is_no_cons c cs (sym z ∙ sym (ap (λ (x : Bor (List ℕ)). x.now) k) ∙ is))
named_or line t s (Some x) d n c cs e k z h is = sym e ∙ sym h ∙ sym (ap (λ (y : Bor (List ℕ)). y.now) k) ∙ is

pub unnamed_or : (line t : List ℕ) (s : Span) (o : Option (Bor (List ℕ))) (d n : Bor (List ℕ)) (w : List ℕ) → t ≡ bytes_at line s → n ≡ unwrap_or o d → IsUtf8 w
    → MatchOption o (IsUtf8 t → ⊥) (λ x. x.now ≡ t) → (n.now ≡ w → ⊥) → bytes_at line s ≡ w → ⊥
unnamed_or line t s None d n w e k u h not is = h (rw (e ∙ is) u)
unnamed_or line t s (Some x) d n w e k u h not is = not (ap (λ (y : Bor (List ℕ)). y.now) k ∙ h ∙ e ∙ is)

-- a word of the command's own is passed
pub own_word : (s t : Words) (w : Placed) (k : List ℕ) → WordFrom s t (Ok w) → bytes_at s.line.now w.place ≡ k → Passed s (the k) (word k) t
own_word s t w k h e = (h.0.1.1.0, (word_at s.line.now w.place, (rw h.0.1.1.1 h.0.0.first, (h.1, (e, λ m. m e)))))

-- a fault behind a word that says its item
pub later : (s t : Words) (p : Part) (i : Item) (ps : List Part) (m : Malformed) → Passed s p i t → Faulty (length t.line.now) ps (words_left t) m → Faulty (length s.line.now) (p ∷ ps) (words_left s) m
later s t p i ps m h f =
    let g : Faulty (length s.line.now) ps (words_from s.line.now t.at) m = rw h.0 at f in
    rw h.1.1.0 (rw h.1.1.1.0 (inr (h.1.1.1.1.1, g)))

-- an item more
pub spelt : (s t : Words) (p : Part) (i : Item) (is : List Item) → Passed s p i t → Spelt t.line.now is (words_left t) → Spelt s.line.now (i ∷ is) (words_left s)
spelt s t p i is h f =
    let g : Spelt s.line.now is (words_from s.line.now t.at) = rw h.0 at f in
    rw h.1.1.0 (h.1.1.1.0, (h.1.1.1.1.0, g))

-- a literal is some literal
some : (s t : Words) (l : Literal) (h : Passed s a_literal (literal l) t) → Passed s a_literal (some_literal h.1.0.text) t
some s t l h = (h.0, (h.1.0, (h.1.1.0, (h.1.1.1.0, ((refl, (datum_of s.line.now l, h.1.1.1.1.0.0)), h.1.1.1.1.1)))))

-- a word is passed
abbrev pub behind_one : (s t : Words) (p : Part) (i : Item) → Passed s p i t → (w : Word) × (words_left s ≡ w ∷ words_left t)
behind_one s t p i h = (h.1.0, rw h.0 h.1.1.0)

-- of literals, the first is none
pub first_literal : (e : ℕ) (ws : List Word) (m : Malformed) → Decides false (ws ≡ []) → ((ps : List Part) → Faulty e (a_literal ∷ ps) ws m) → Faulty e (literal_parts ws) ws m
first_literal e [] m h f = absurd (false≢true (h.1 refl))
first_literal e (w ∷ ws) m h f = f (literal_parts ws)

-- or a later one
pub later_literal : (s t : Words) (l : Literal) (m : Malformed) → Passed s a_literal (literal l) t
    → Faulty (length t.line.now) (literal_parts (words_left t)) (words_left t) m → Faulty (length s.line.now) (literal_parts (words_left s)) (words_left s) m
later_literal s t l m h f =
    let P : List Part → Type 0 = λ ps. Faulty (length s.line.now) ps (words_left s) m in
    subst P (sym (ap literal_parts (behind_one s t a_literal (literal l) h).1)) (later s t a_literal (literal l) (literal_parts (words_left t)) m h f)

-- a literal more
pub spelt_literal : (s t : Words) (l : Literal) → Passed s a_literal (literal l) t
    → Spelt t.line.now (literal_items (words_left t)) (words_left t) → Spelt s.line.now (literal_items (words_left s)) (words_left s)
spelt_literal s t l h f =
    let P : List Item → Type 0 = λ is. Spelt s.line.now is (words_left s) in
    let first = some_literal h.1.0.text in
    subst P (sym (ap literal_items (behind_one s t a_literal (literal l) h).1)) (spelt s t a_literal first (literal_items (words_left t)) (some s t l h) f)

pub operator_argument : (line t : List ℕ) (s : Span) (r : Option PredicateOperator) → t ≡ bytes_at line s → Reads OperatorWord t r → WordRead an_operator (λ op. word (operator_text op)) line s r
operator_argument line t s None e h = λ op f. h op (e ∙ f)
operator_argument line t s (Some op) e h = let g : bytes_at line s ≡ operator_text op = sym e ∙ h in (λ i. g, λ m. m op g)
