-- Commands by their words.
use Rattle.std.proofs.Common.{◌≡◌, ℕ, false, List, [], ◌∷◌, length, drop, Ok, Err, codes, Decides, IsUtf8, Result, sym, refl, ap, ◌∙◌, subst, inl, inr}
use Rattle.std.specs.Str.{bytes_eq}
use Rattle.std.proofs.lemmas.Slice.Eq.{bytes_eq-Decides}
use Rattle.std.proofs.lemmas.Bool.{cases_Bool, false≢true, cond_both}
use Rattle.reading.specs.Words.{Word}
use Rattle.reading.specs.declared.words.Words.{Words}
use Rattle.reading.specs.NextWord.{words_left}
use Rattle.commands.specs.declared.command.Command.{Command}
use Rattle.commands.specs.declared.command.Malformed.{Malformed}
use Rattle.commands.specs.declared.command.Fault.TheVariants as F
use Rattle.std.specs.Result.{MatchResult}
use Rattle.values.specs.declared.literals.Literal.{Literal}
use Rattle.commands.specs.declared.command.CellWord.{CellWord}
use Rattle.commands.specs.declared.command.CellWord.TheVariants as W
use Rattle.nodes.specs.declared.operators.PredicateOperator.{PredicateOperator}
use Rattle.nodes.specs.declared.operators.PredicateOperator.TheVariants as O
use Rattle.reading.specs.Ascii.{ascii_is_text}
use Rattle.commands.specs.Spelling.{Item, literal, cell_items, operator_text, OperatorWord}
use Rattle.commands.specs.Grammar.{Part, a_literal, a_number, the, cell_parts, parent_parts, literal_parts, wanted, Faulty, FaultyBehind, at_word}
use Rattle.commands.specs.Steps.{Passed, Done, CommandRead, Follows}
use Rattle.commands.proofs.Words.{behind_one}

-- the word is its place and its text
pub dispatched : (s : Words) (t k : List ℕ) (place : ℕ) (r : Result Command Malformed) → t ≡ k → Follows k s r → CommandRead s.line.now (record { place = place; text = t }) (words_left s) r
dispatched s t k place r e h = rw e (h place)

-- not that word
unlike : (t w : List ℕ) → (t ≡ w → ⊥) → bytes_eq t w ≡ false
unlike t w h = elim (cases_Bool (bytes_eq t w)) [ inl e ↦ absurd (h ((bytes_eq-Decides t w).0 e)) | inr e ↦ e ]

-- an operator's word is text
operator_in_text : (op : PredicateOperator) → IsUtf8 (operator_text op)
operator_in_text O.IsNull = ascii_is_text (codes "is-null") refl
operator_in_text O.NotNull = ascii_is_text (codes "not-null") refl
operator_in_text O.IsNan = ascii_is_text (codes "is-nan") refl
operator_in_text O.NotNan = ascii_is_text (codes "not-nan") refl
operator_in_text O.LessThan = ascii_is_text (codes "<") refl
operator_in_text O.LessThanOrEq = ascii_is_text (codes "<=") refl
operator_in_text O.GreaterThan = ascii_is_text (codes ">") refl
operator_in_text O.GreaterThanOrEq = ascii_is_text (codes ">=") refl
operator_in_text O.Eq = ascii_is_text (codes "=") refl
operator_in_text O.NotEq = ascii_is_text (codes "!=") refl
operator_in_text O.StartsWith = ascii_is_text (codes "starts-with") refl
operator_in_text O.NotStartsWith = ascii_is_text (codes "not-starts-with") refl
operator_in_text O.In = ascii_is_text (codes "in") refl
operator_in_text O.NotIn = ascii_is_text (codes "not-in") refl

-- what is no text is no operator
pub no_operator : (t : List ℕ) → (IsUtf8 t → ⊥) → (op : PredicateOperator) → OperatorWord op t → ⊥
no_operator t n op w = n (rw w (operator_in_text op))

-- nor is a word that is none of theirs
pub other_operator : (t : List ℕ)
    → (t ≡ operator_text O.IsNull → ⊥) → (t ≡ operator_text O.NotNull → ⊥) → (t ≡ operator_text O.IsNan → ⊥) → (t ≡ operator_text O.NotNan → ⊥)
    → (t ≡ operator_text O.LessThan → ⊥) → (t ≡ operator_text O.LessThanOrEq → ⊥) → (t ≡ operator_text O.GreaterThan → ⊥) → (t ≡ operator_text O.GreaterThanOrEq → ⊥)
    → (t ≡ operator_text O.Eq → ⊥) → (t ≡ operator_text O.NotEq → ⊥) → (t ≡ operator_text O.StartsWith → ⊥) → (t ≡ operator_text O.NotStartsWith → ⊥)
    → (t ≡ operator_text O.In → ⊥) → (t ≡ operator_text O.NotIn → ⊥)
    → (op : PredicateOperator) → OperatorWord op t → ⊥
other_operator t a b c d f g h i j k l m n p = none
  where
    none : (op : PredicateOperator) → OperatorWord op t → ⊥
    none O.IsNull w = a w
    none O.NotNull w = b w
    none O.IsNan w = c w
    none O.NotNan w = d w
    none O.LessThan w = f w
    none O.LessThanOrEq w = g w
    none O.GreaterThan w = h w
    none O.GreaterThanOrEq w = i w
    none O.Eq w = j w
    none O.NotEq w = k w
    none O.StartsWith w = l w
    none O.NotStartsWith w = m w
    none O.In w = n w
    none O.NotIn w = p w

-- a word that begins no command
pub unknown : (e : ℕ) (w : Word) (ws : List Word)
    → (w.text ≡ codes "equal" → ⊥) → (w.text ≡ codes "compare" → ⊥) → (w.text ≡ codes "convert" → ⊥) → (w.text ≡ codes "field" → ⊥)
    → (w.text ≡ codes "schema" → ⊥) → (w.text ≡ codes "find" → ⊥) → (w.text ≡ codes "find-any-case" → ⊥) → (w.text ≡ codes "row" → ⊥)
    → (w.text ≡ codes "cell" → ⊥) → (w.text ≡ codes "get" → ⊥) → (w.text ≡ codes "always-true" → ⊥) → (w.text ≡ codes "always-false" → ⊥)
    → (w.text ≡ codes "lay" → ⊥) → (w.text ≡ codes "and" → ⊥) → (w.text ≡ codes "or" → ⊥) → (w.text ≡ codes "not" → ⊥)
    → (w.text ≡ codes "negate" → ⊥) → (w.text ≡ codes "rewrite" → ⊥) → (w.text ≡ codes "show" → ⊥) → (w.text ≡ codes "book" → ⊥)
    → FaultyBehind e w ws (wanted w.text ws) (at_word F.UnknownCommand w)
unknown e w ws a b c d f g h i j k l m n o p q r s t u =
    rw (
      unlike w.text (codes "equal") a,
      unlike w.text (codes "compare") b,
      unlike w.text (codes "convert") c,
      unlike w.text (codes "field") d,
      unlike w.text (codes "schema") f,
      unlike w.text (codes "find") g,
      unlike w.text (codes "find-any-case") h,
      unlike w.text (codes "row") i,
      unlike w.text (codes "cell") j,
      unlike w.text (codes "get") k,
      unlike w.text (codes "always-true") l,
      unlike w.text (codes "always-false") m,
      unlike w.text (codes "lay") n,
      unlike w.text (codes "and") o,
      unlike w.text (codes "or") p,
      unlike w.text (codes "not") q,
      unlike w.text (codes "negate") r,
      unlike w.text (codes "rewrite") s,
      unlike w.text (codes "show") t,
      unlike w.text (codes "book") u,
    ) refl

-- a cell's first word is missing or open
pub no_cell_word : (e : ℕ) (ws : List Word) (m : Malformed) → ((p : Part) (ps : List Part) → Faulty e (p ∷ ps) ws m) → Faulty e (cell_parts ws) ws m
no_cell_word e [] m h = h a_literal []
no_cell_word e (w ∷ ws) m h =
    let P : List Part → Type 0 = λ ps. Faulty e ps (w ∷ ws) m in
    cond_both (bytes_eq w.text (codes "null")) _ _ P (λ _. h (the (codes "null")) [])
    (λ _. cond_both (bytes_eq w.text (codes "group")) _ _ P (λ _. h (the (codes "group")) (a_number 64 ∷ a_number 64 ∷ []))
    (λ _. cond_both (bytes_eq w.text (codes "list")) _ _ P (λ _. h (the (codes "list")) []) (λ _. h a_literal [])))

-- a cell's first word is none of its own
cell-literal : (w : Word) (ws : List Word) → (w.text ≡ codes "null" → ⊥) → (w.text ≡ codes "group" → ⊥) → (w.text ≡ codes "list" → ⊥) → cell_parts (w ∷ ws) ≡ a_literal ∷ []
cell-literal w ws a b c = rw (unlike w.text (codes "null") a, unlike w.text (codes "group") b, unlike w.text (codes "list") c) refl

pub cell_value : (s : Words) (w : Word) (ws : List Word) (r : Result Literal Malformed) (m : Result CellWord Malformed) → words_left s ≡ w ∷ ws
    → (w.text ≡ codes "null" → ⊥) → (w.text ≡ codes "group" → ⊥) → (w.text ≡ codes "list" → ⊥)
    → Done (a_literal ∷ []) (λ x. literal x ∷ []) s r → MatchResult r (λ x. m ≡ Ok (W.Value x)) (λ e. m ≡ Err e) → Done (cell_parts (words_left s)) cell_items s m
cell_value s w ws (Ok x) m e a b c h g = rw g h
cell_value s w ws (Err f) m e a b c h g =
    let P : List Part → Type 0 = λ ps. Faulty (length s.line.now) ps (words_left s) f in
    rw g (subst P (sym (ap cell_parts e ∙ cell-literal w ws a b c)) h)

-- behind four words a parent is named, if there is a word
pub parent_begins : (ws : List Word) → Decides false (ws ≡ []) → parent_parts ws ≡ the (codes "in") ∷ a_number 64 ∷ []
parent_begins [] h = absurd (false≢true (h.1 refl))
parent_begins (w ∷ ws) h = refl

-- behind four words the parent begins
pub parent_fault : (s a b c t : Words) (p q r u : Part) (i j k l : Item) (m : Malformed) → Passed s p i a → Passed a q j b → Passed b r k c → Passed c u l t
    → Faulty (length t.line.now) (parent_parts (words_left t)) (words_left t) m → Faulty (length t.line.now) (parent_parts (drop 4 (words_left s))) (words_left t) m
parent_fault s a b c t p q r u i j k l m x y z w h =
    let P : List Word → Type 0 = λ ws. Faulty (length t.line.now) (parent_parts ws) (words_left t) m in
    let same : drop 4 (words_left s) ≡ words_left t =
    ap (drop 4) (behind_one s a p i x).1 ∙ ap (drop 3) (behind_one a b q j y).1 ∙ ap (drop 2) (behind_one b c r k z).1 ∙ ap (drop 1) (behind_one c t u l w).1 in
    subst P (sym same) h

-- behind a column and an operator the literals begin
pub literals_fault : (s a t : Words) (p q : Part) (i j : Item) (m : Malformed) → Passed s p i a → Passed a q j t
    → Faulty (length t.line.now) (literal_parts (words_left t)) (words_left t) m → Faulty (length t.line.now) (literal_parts (drop 2 (words_left s))) (words_left t) m
literals_fault s a t p q i j m x y h =
    let P : List Word → Type 0 = λ ws. Faulty (length t.line.now) (literal_parts ws) (words_left t) m in
    let same : drop 2 (words_left s) ≡ words_left t = ap (drop 2) (behind_one s a p i x).1 ∙ ap (drop 1) (behind_one a t q j y).1 in
    subst P (sym same) h
