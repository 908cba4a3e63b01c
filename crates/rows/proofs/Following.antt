-- Steps of the lookup.
use Rattle.std.proofs.Common.{◌≡◌, ℕ, ◌+◌, ◌<◌, ◌≤◌, true, false, ◌&&◌, ltb, leb, List, [], ◌∷◌, length, get_or, drop, Ok, Err, refl, arith}
use Rattle.std.proofs.lemmas.Bool.Decides.{nat_tests}
use Rattle.values.specs.declared.refusals.Reason.TheVariants as R
use Rattle.rows.specs.declared.cells.Cell.{Cell}
use Rattle.rows.specs.declared.cells.Cell.TheVariants as C
use Rattle.rows.specs.Cells.{followed}

-- a place in a group, in the order in which a group is asked
pub in_group : (cells : List Cell) (x : Cell) (after start count p : ℕ) (ps : List ℕ) → x ≡ C.Group start count → after ≤ start → start + count ≤ length cells → p < count → followed cells (get_or cells (start + p) C.Null) (start + p + 1) ps ≡ followed cells x after (p ∷ ps)
in_group cells x after start count p ps e a b h =
    let inside : (leb after start && leb (start + count) (length cells)) ≡ true = grind (arith, nat_tests) in
    let there : ltb p count ≡ true = grind (arith, nat_tests) in
    rw (e, inside, there) refl

pub past_group : (cells : List Cell) (x : Cell) (after start count p : ℕ) (ps : List ℕ) → x ≡ C.Group start count → after ≤ start → start + count ≤ length cells → count ≤ p → followed cells x after (p ∷ ps) ≡ Err R.PlacePastGroup
past_group cells x after start count p ps e a b h =
    let inside : (leb after start && leb (start + count) (length cells)) ≡ true = grind (arith, nat_tests) in
    let past : ltb p count ≡ false = grind (arith, nat_tests) in
    rw (e, inside, past) refl

pub outside_group : (cells : List Cell) (x : Cell) (after start count p : ℕ) (ps : List ℕ) → x ≡ C.Group start count → (after ≤ start → start + count ≤ length cells → ⊥) → followed cells x after (p ∷ ps) ≡ Err R.OutsideRow
outside_group cells x after start count p ps e n =
    let outside : (leb after start && leb (start + count) (length cells)) ≡ false = grind (arith, nat_tests) in
    rw (e, outside) refl

pub no_group : (cells : List Cell) (x : Cell) (after p : ℕ) (ps : List ℕ) → ((start count : ℕ) → x ≡ C.Group start count → ⊥) → followed cells x after (p ∷ ps) ≡ Err R.NoGroup
no_group cells C.Null after p ps n = refl
no_group cells (C.Value v) after p ps n = refl
no_group cells (C.Group start count) after p ps n = absurd (n start count refl)
no_group cells C.ListOrMap after p ps n = refl

-- the places as the function has them
pub at_end : (cells : List Cell) (x : Cell) (after : ℕ) (ps : List ℕ) → length ps < 1 → Ok x ≡ followed cells x after ps
at_end cells x after [] h = refl
at_end cells x after (p ∷ ps) h = absurd (omega arith)

pub into_group : (cells : List Cell) (x : Cell) (after start count : ℕ) (ps : List ℕ) → x ≡ C.Group start count → after ≤ start → start + count ≤ length cells → 1 ≤ length ps → get_or ps 0 0 < count → followed cells (get_or cells (start + get_or ps 0 0) C.Null) (start + get_or ps 0 0 + 1) (drop 1 ps) ≡ followed cells x after ps
into_group cells x after start count [] e a b n h = absurd (omega arith)
into_group cells x after start count (p ∷ ps) e a b n h = in_group cells x after start count p ps e a b h
