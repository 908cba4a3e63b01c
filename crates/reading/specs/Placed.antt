-- What is read of a word at a span of the line: its content, and that it lies in the line where the word does.
use Rattle.std.specs.Prelude.{◌≡◌, ℕ, ◌<◌, true, List, length, Some, None, Option, ◌≢◌, slice_index}
use Rattle.values.specs.declared.kinds.Storage.{Storage}
use Rattle.values.specs.declared.literals.Span.{Span}
use Rattle.values.specs.declared.literals.Value.{Value}
use Rattle.values.specs.declared.literals.Literal.{Literal}
use Rattle.values.specs.Contents.{bytes_at, inside, text_inside, Content, content_of, Datum, datum_of}
use Rattle.reading.specs.Literals.{Quoted, Wording, LiteralWord}

-- the first colon's place
abbrev pub FirstColon : List ℕ → Option ℕ → Type 0
FirstColon t None = (i : ℕ) → i < length t → slice_index t i ≢ 58
FirstColon t (Some n) = (n < length t) × ((slice_index t n ≡ 58) × ((i : ℕ) → i < n → slice_index t i ≢ 58))

-- the bytes that a word is, bare or quoted; none where a quote stands elsewhere
abbrev pub TextRead : List ℕ → Span → Option Span → Type 0
TextRead line w None = (b : List ℕ) → Quoted b (bytes_at line w) → ⊥
TextRead line w (Some s) = Quoted (bytes_at line s) (bytes_at line w) × (inside (length line) w ≡ true → inside (length line) s ≡ true)

-- the content that a word is in a storage
abbrev pub ValueRead : List ℕ → Storage → Span → Option Value → Type 0
ValueRead line s w None = (c : Content) → Wording s c (bytes_at line w) → ⊥
ValueRead line s w (Some v) = Wording s (content_of line v) (bytes_at line w) × (inside (length line) w ≡ true → text_inside (length line) v ≡ true)

-- the literal that a word writes
abbrev pub LiteralRead : List ℕ → Span → Option Literal → Type 0
LiteralRead line w None = (d : Datum) → LiteralWord d (bytes_at line w) → ⊥
LiteralRead line w (Some l) = LiteralWord (datum_of line l) (bytes_at line w) × (inside (length line) w ≡ true → text_inside (length line) l.value ≡ true)
