-- Accessors of fields.
use Rattle.std.proofs.Common.{◌≡◌, ℕ, ◌<◌, ◌≤◌, Bool, true, false, cond, ltb, leb, List, map, length, Ok, Err, Result, sym, refl, ap, ◌∙◌, arith}
use Rattle.std.proofs.lemmas.List.{length-map}
use Rattle.std.proofs.lemmas.Bool.{le-leb, lt-ltb, and_from, false≢true}
use Rattle.values.specs.declared.refusals.Reason.{Reason}
use Rattle.values.specs.declared.refusals.Reason.TheVariants.{NoAccessor}
use Rattle.schema.specs.declared.fields.Field.{Field}
use Rattle.schema.specs.declared.fields.Shape.{Shape}
use Rattle.schema.specs.declared.fields.Shape.TheVariants.{Primitive, Struct, ListOrMap}
use Rattle.schema.specs.Lines.{field_at, line, place}
use Rattle.schema.specs.Accessors.{Access, primitive, in_reach, accessor_in, accessor_of}
use Rattle.schema.specs.Rules.{Sound}
use Rattle.schema.specs.Theorems.{Reachable}
use Rattle.schema.proofs.Places.{line_some, same_places}

reached : (fs : List Field) (i : ℕ) → i < 128 → length (line fs i) ≤ 8 → in_reach fs i ≡ true
reached fs i h l = and_from (ltb i 128) (leb (length (line fs i)) 8) (lt-ltb i 128 h) (le-leb (length (line fs i)) 8 l)

-- an accessor's places are those along the line
accessor_places : (fs : List Field) (i : ℕ) (s : Shape) (a : Access) → accessor_in fs i s ≡ Ok a → a.places ≡ map (place fs) (line fs i)
accessor_places fs i (Primitive k) a e = go (in_reach fs i) e
  where
    go : (b : Bool) → cond b (Ok (record { places = map (place fs) (line fs i); kind = k })) (Err NoAccessor) ≡ Ok a → a.places ≡ map (place fs) (line fs i)
    go true e = let same : record { places = map (place fs) (line fs i); kind = k } ≡ a = cc in ap (λ (x : Access). x.places) (sym same)
    go false e = cc
accessor_places fs i Struct a e = cc
accessor_places fs i ListOrMap a e = cc

pub own_accessor : (fs : List Field) (i : ℕ) (r : Result Access Reason) → r ≡ accessor_of fs i → (other : ℕ) (a b : Access) → r ≡ Ok a → accessor_of fs other ≡ Ok b → a.places ≡ b.places → other ≡ i
own_accessor fs i r is other a b e f s =
    same_places fs other i (sym (accessor_places fs other (field_at fs other).shape b f) ∙ sym s ∙ accessor_places fs i (field_at fs i).shape a (sym is ∙ e))

-- in a sound schema each primitive field has an accessor
pub reachable : (fs : List Field) (t : List ℕ) → Sound fs t → Reachable fs
reachable fs t sound i h e = go (field_at fs i).shape refl
  where
    go : (s : Shape) → (field_at fs i).shape ≡ s → (a : Access) × (accessor_of fs i ≡ Ok a) × (1 ≤ length a.places) × (length a.places ≤ 8)
    go (Primitive k) s =
        let size : length (map (place fs) (line fs i)) ≡ length (line fs i) = length-map (line fs i) (place fs) in
        let depth = (sound i h).depth e in
        (record { places = map (place fs) (line fs i); kind = k }, rw (s, reached fs i (sound i h).few depth) refl, omega (arith, line_some fs i), omega arith)
    go Struct s = absurd (false≢true (ap primitive (sym s) ∙ e))
    go ListOrMap s = absurd (false≢true (ap primitive (sym s) ∙ e))
