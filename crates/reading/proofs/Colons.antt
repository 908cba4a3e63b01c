-- The colon between a literal's kind and its value.
use Rattle.std.proofs.Common.{◌≡◌, ℕ, zero, suc, ◌+◌, ◌-◌, ◌<◌, Bool, true, cond, not, ◌&&◌, eqb, List, [], ◌∷◌, ◌++◌, length, get_or, take, drop, Some, None, codes, decimal, sym, refl, ap, ◌∙◌, inl, inr, arith, length-append}
use Rattle.std.specs.Str.Parse.{AllDigits}
use Rattle.std.specs.Str.{bytes_eq}
use Rattle.std.proofs.lemmas.Fmt.{digits_decimal}
use Rattle.std.proofs.lemmas.List.{take_at, drop_at, get_or_at, get_or_append_left, take-append-drop, drop-drop, drop-take, drop_more}
use Rattle.std.proofs.lemmas.Str.Parse.{numerals_by_value, tells_digits, digit_from_value}
use Rattle.std.proofs.lemmas.Bool.{and_parts, cases_order, leb-true, le-leb}
use Rattle.std.proofs.lemmas.Bool.Decides.{nat_tests}
use Rattle.values.specs.declared.kinds.Kind.{Kind}
use Rattle.values.specs.declared.kinds.Kind.TheVariants as K
use Rattle.values.specs.declared.kinds.Storage.{Storage}
use Rattle.values.specs.declared.kinds.Storage.TheVariants as S
use Rattle.values.specs.declared.literals.Span.{Span}
use Rattle.values.specs.Kinds.{storage_of}
use Rattle.values.specs.declared.literals.Value.{Value}
use Rattle.values.specs.Contents.{bytes_at, content_of}
use Rattle.reading.specs.Writing.{kind_text, Lasting, KindWord}
use Rattle.reading.specs.Literals.{Wording}
use Rattle.reading.specs.Placed.{FirstColon, ValueRead, LiteralRead}
use Rattle.reading.proofs.Quotes.{shorter}

abbrev colonless : List ℕ → Bool
colonless [] = true
colonless (c ∷ cs) = not (eqb c 58) && colonless cs

colonless-at : (t : List ℕ) (i : ℕ) → colonless t ≡ true → i < length t → get_or t i 0 ≡ 58 → ⊥
colonless-at [] i h l e = omega arith
colonless-at (c ∷ cs) zero h l e = grind (arith, nat_tests)
colonless-at (c ∷ cs) (suc i) h l e = colonless-at cs i (and_parts (not (eqb c 58)) (colonless cs) h).1 (omega arith) e

colonless_digits : (ds t : List ℕ) → AllDigits 10 ds → colonless t ≡ true → colonless (ds ++ t) ≡ true
colonless_digits [] t d h = h
colonless_digits (c ∷ cs) t d h = let i = digit_from_value c d.0 in let m = colonless_digits cs t d.1 h in grind (arith, nat_tests)

kind-colonless : (k : Kind) → Lasting k → colonless (kind_text k) ≡ true
kind-colonless K.Boolean l = refl
kind-colonless K.Int l = refl
kind-colonless K.Date l = refl
kind-colonless K.Long l = refl
kind-colonless K.Time l = refl
kind-colonless K.Timestamp l = refl
kind-colonless K.Timestamptz l = refl
kind-colonless K.TimestampNs l = refl
kind-colonless K.TimestamptzNs l = refl
kind-colonless K.Float l = refl
kind-colonless K.Double l = refl
kind-colonless K.String l = refl
kind-colonless (K.Fixed n) l = colonless_digits (decimal n) (codes ")") (digits_decimal (numerals_by_value _ tells_digits) n l) refl
kind-colonless K.Binary l = refl

at_colon : (t k v : List ℕ) → t ≡ k ++ (58 ∷ v) → get_or t (length k) 0 ≡ 58
at_colon t k v e = ap (λ (x : List ℕ). get_or x (length k) 0) e ∙ get_or_at k 58 v 0 (length k) refl

-- the first colon stands behind the kind
colon_place : (t k v : List ℕ) (n : ℕ) (kind : Kind) → KindWord kind k → t ≡ k ++ (58 ∷ v) → FirstColon t (Some n) → n ≡ length k
colon_place t k v n kind w e f =
    elim (cases_order n (length k)) [
      | inl m ↦ m
      | inr (inl l) ↦ absurd (colonless-at k n (rw w.1 (kind-colonless kind w.0)) l (sym (get_or_append_left k (58 ∷ v) 0 n l) ∙ ap (λ (x : List ℕ). get_or x n 0) (sym e) ∙ f.1.0))
      | inr (inr l) ↦ absurd (f.1.1 (length k) l (at_colon t k v e))
    ]

no_colon : (t k v : List ℕ) → t ≡ k ++ (58 ∷ v) → FirstColon t None → ⊥
no_colon t k v e f = f (length k) (omega (arith, ap length e, length-append k (58 ∷ v))) (at_colon t k v e)

-- the storage that a kind's name tells
abbrev named_storage : List ℕ → Storage
named_storage t =
    cond (bytes_eq t (codes "boolean")) S.Boolean
    (cond (bytes_eq t (codes "int")) S.Int
    (cond (bytes_eq t (codes "date")) S.Int
    (cond (bytes_eq t (codes "long")) S.Long
    (cond (bytes_eq t (codes "time")) S.Long
    (cond (bytes_eq t (codes "timestamp")) S.Long
    (cond (bytes_eq t (codes "timestamptz")) S.Long
    (cond (bytes_eq t (codes "timestamp_ns")) S.Long
    (cond (bytes_eq t (codes "timestamptz_ns")) S.Long
    (cond (bytes_eq t (codes "float")) S.Float
    (cond (bytes_eq t (codes "double")) S.Double
    (cond (bytes_eq t (codes "string")) S.String S.Binary)))))))))))

storage_named : (k : Kind) → storage_of k ≡ named_storage (kind_text k)
storage_named K.Boolean = refl
storage_named K.Int = refl
storage_named K.Date = refl
storage_named K.Long = refl
storage_named K.Time = refl
storage_named K.Timestamp = refl
storage_named K.Timestamptz = refl
storage_named K.TimestampNs = refl
storage_named K.TimestamptzNs = refl
storage_named K.Float = refl
storage_named K.Double = refl
storage_named K.String = refl
storage_named (K.Fixed n) = refl
storage_named K.Binary = refl

-- two kinds of one name share their storage
one_storage : (j k : Kind) (t : List ℕ) → KindWord j t → KindWord k t → storage_of j ≡ storage_of k
one_storage j k t p q = storage_named j ∙ ap named_storage (sym p.1 ∙ q.1) ∙ sym (storage_named k)

exact : (len : ℕ) (xs : List ℕ) → take len xs ≡ take (length (take len xs)) xs
exact zero xs = refl
exact (suc m) [] = refl
exact (suc m) (x ∷ xs) = ap (λ (ys : List ℕ). x ∷ ys) (exact m xs)

-- the value's place in the line
value_bytes : (line t : List ℕ) (w s : Span) (n : ℕ) → t ≡ bytes_at line w → n < length t → s.start ≡ w.start + n + 1 → s.len ≡ length t - n - 1
    → bytes_at line s ≡ drop (n + 1) t
value_bytes line t w s n e l p q =
    let m = length t - n - 1 in
    let start : s.start ≡ w.start + (n + 1) = omega arith in
    let total : length t ≡ n + 1 + m = omega arith in
    let whole : t ≡ take (n + 1 + m) (drop w.start line) =
    e ∙ exact w.len (drop w.start line) ∙ ap (λ (x : List ℕ). take (length x) (drop w.start line)) (sym e) ∙ ap (λ (k : ℕ). take k (drop w.start line)) total in
    let rest : drop (n + 1) t ≡ take m (drop (w.start + (n + 1)) line) =
    ap (drop (n + 1)) whole ∙ drop-take (n + 1) m (drop w.start line) ∙ ap (take m) (drop-drop (n + 1) w.start line) in
    rw (start, q) (sym rest)

-- a literal in its parts
parts : (t : List ℕ) (n : ℕ) → FirstColon t (Some n) → t ≡ take n t ++ (58 ∷ drop (n + 1) t)
parts t n f = sym (take-append-drop n t) ∙ ap (λ (x : List ℕ). take n t ++ x) (drop_more t n 0 f.0 ∙ ap (λ (c : ℕ). c ∷ drop (n + 1) t) f.1.0)

pub literal_read : (line t : List ℕ) (w s : Span) (n : ℕ) (k : Kind) (r : Storage) (v : Value) → t ≡ bytes_at line w → FirstColon t (Some n) → KindWord k (take n t)
    → r ≡ storage_of k → s.start ≡ w.start + n + 1 → s.len ≡ length t - n - 1 → ValueRead line r s (Some v) → LiteralRead line w (Some (record { kind = k; value = v }))
literal_read line t w s n k r v e f kw re p q h =
    let l = f.0 in
    let value : Wording (storage_of k) (content_of line v) (drop (n + 1) t) = rw (← re, ← value_bytes line t w s n e l p q) h.0 in
    let short = shorter line t w e in
    ((take n t, drop (n + 1) t, (sym e ∙ parts t n f, (kw, value))), λ o. h.1 (let b = leb-true (w.start + w.len) (length line) o in le-leb (s.start + s.len) (length line) (omega arith)))

pub no_value : (line t : List ℕ) (w s : Span) (n : ℕ) (k : Kind) (r : Storage) → t ≡ bytes_at line w → FirstColon t (Some n) → KindWord k (take n t)
    → r ≡ storage_of k → s.start ≡ w.start + n + 1 → s.len ≡ length t - n - 1 → ValueRead line r s None → LiteralRead line w None
no_value line t w s n k r e f kw re p q h = λ d g.
    let place = colon_place t g.0 g.1 n d.kind g.2.1.0 (e ∙ g.2.0) f in
    let kind : g.0 ≡ take n t = sym (ap (take n) (e ∙ g.2.0) ∙ take_at g.0 (58 ∷ g.1) n (sym place)) in
    let rest : g.1 ≡ drop (n + 1) t = sym (ap (drop 1) (ap (drop n) (e ∙ g.2.0) ∙ drop_at g.0 (58 ∷ g.1) n (sym place))) ∙ drop-drop 1 n t in
    let storage : storage_of d.kind ≡ r = one_storage d.kind k (take n t) (g.2.1.0.0, sym kind ∙ g.2.1.0.1) kw ∙ sym re in
    h d.content (rw (← storage, value_bytes line t w s n e f.0 p q, ← rest) g.2.1.1)

pub no_kind : (line t : List ℕ) (w : Span) (n : ℕ) → t ≡ bytes_at line w → FirstColon t (Some n) → ((k : Kind) → KindWord k (take n t) → ⊥) → LiteralRead line w None
no_kind line t w n e f h = λ d g.
    let place = colon_place t g.0 g.1 n d.kind g.2.1.0 (e ∙ g.2.0) f in
    let kind : g.0 ≡ take n t = sym (ap (take n) (e ∙ g.2.0) ∙ take_at g.0 (58 ∷ g.1) n (sym place)) in
    h d.kind (g.2.1.0.0, sym kind ∙ g.2.1.0.1)

pub no_parts : (line t : List ℕ) (w : Span) → t ≡ bytes_at line w → FirstColon t None → LiteralRead line w None
no_parts line t w e f = λ d g. no_colon t g.0 g.1 (e ∙ g.2.0) f
