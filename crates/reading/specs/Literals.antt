-- What a literal is written as.
use Rattle.std.specs.Prelude.{◌≡◌, ℕ, ◌-◌, ◌^◌, ◌<◌, Bool, true, cond, not, ◌&&◌, ◌⊎◌, List, [], ◌∷◌, ◌++◌, length, ℤ, pos, codes, ◌==◌, nat_lt, slice_index, Float}
use Rattle.std.specs.Float.{Format, binary32, binary64}
use Rattle.std.specs.Float.Ieee.{of_int}
use Rattle.std.specs.Int.{w32, w64}
use Rattle.std.specs.Float.Parse.{is_float_text}
use Rattle.std.specs.Str.Parse.{IsNumeral, without_leading_plus, digits_value}
use Rattle.floats.specs.Patterns.{rank}
use Rattle.values.specs.declared.kinds.Storage.{Storage}
use Rattle.values.specs.declared.kinds.Storage.TheVariants as S
use Rattle.values.specs.Kinds.{storage_of}
use Rattle.values.specs.Contents.{boolean, int, long, float, double, string, binary, Content, number, bytes, Datum}
use Rattle.reading.specs.Writing.{Integer, KindWord}

-- no double quote stands in the bytes
abbrev pub quoteless : List ℕ → Bool
quoteless [] = true
quoteless (c ∷ cs) = not (c == 34) && quoteless cs

-- a quote stands first and another last
abbrev pub enclosed : List ℕ → Bool
enclosed t = nat_lt 1 (length t) && (slice_index t 0 == 34 && slice_index t (length t - 1) == 34)

-- bytes as typed, bare or between two double quotes
abbrev pub Quoted : List ℕ → List ℕ → Type 0
Quoted b t = (quoteless b ≡ true) × ((t ≡ b) ⊎ (t ≡ 34 ∷ (b ++ (34 ∷ []))))

-- a text that std reads as a float, which is the nearest one where the text is a whole number of k bits
abbrev pub FloatText : Format → ℕ → Float → List ℕ → Type 0
FloatText f k x t = (is_float_text t ≡ true) × (IsNumeral 10 (without_leading_plus t) → digits_value 10 (without_leading_plus t) < 2 ^ k → x ≡ of_int f (pos (digits_value 10 (without_leading_plus t))))

-- the text of a content in its storage
abbrev pub Wording : Storage → Content → List ℕ → Type 0
Wording S.Boolean c t = (b : Bool) × ((c ≡ number boolean (cond b (pos 1) (pos 0))) × (t ≡ cond b (codes "true") (codes "false")))
Wording S.Int c t = (z : ℤ) × ((c ≡ number int z) × Integer w32 z t)
Wording S.Long c t = (z : ℤ) × ((c ≡ number long z) × Integer w64 z t)
Wording S.Float c t = (x : Float) × ((c ≡ number float (pos (rank binary32 x))) × FloatText binary32 32 x t)
Wording S.Double c t = (x : Float) × ((c ≡ number double (pos (rank binary64 x))) × FloatText binary64 64 x t)
Wording S.String c t = (b : List ℕ) × ((c ≡ bytes string b) × Quoted b t)
Wording S.Binary c t = (b : List ℕ) × ((c ≡ bytes binary b) × Quoted b t)

-- a literal: the kind, a colon, and the content as the kind's storage words it
abbrev pub LiteralWord : Datum → List ℕ → Type 0
LiteralWord d t = (k v : List ℕ) × ((t ≡ k ++ (58 ∷ v)) × (KindWord d.kind k × Wording (storage_of d.kind) d.content v))
