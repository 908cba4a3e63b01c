-- The accessor of a field: the places from the top, group by group.
use Rattle.std.specs.Prelude.{ℕ, Bool, true, false, cond, ◌&&◌, List, map, length, take, Ok, Err, Result, nat_le, nat_lt}
use Rattle.values.specs.declared.kinds.Kind.{Kind}
use Rattle.values.specs.declared.refusals.Reason.{Reason}
use Rattle.values.specs.declared.refusals.Reason.TheVariants.{NoAccessor}
use Rattle.schema.specs.declared.fields.Field.{Field}
use Rattle.schema.specs.declared.fields.Shape.{Shape}
use Rattle.schema.specs.declared.fields.Shape.TheVariants.{Primitive, Struct, ListOrMap}
use Rattle.schema.specs.declared.accessor.StructAccessor.{StructAccessor}
use Rattle.schema.specs.Lines.{field_at, line, place}

-- the places from the top, and the kind of what is found there
pub record Access : Type 0 where
  pub places : List ℕ
  pub kind : Kind

-- what an answer says
abbrev pub read : Result StructAccessor Reason → Result Access Reason
read (Ok a) = Ok (record { places = take a.count a.places; kind = a.kind })
read (Err e) = Err e

abbrev pub primitive : Shape → Bool
primitive (Primitive k) = true
primitive Struct = false
primitive ListOrMap = false

-- the field is among those that a schema may have, and no deeper than eight places
abbrev pub in_reach : List Field → ℕ → Bool
in_reach fs i = nat_lt i 128 && nat_le (length (line fs i)) 8

abbrev pub accessor_in : List Field → ℕ → Shape → Result Access Reason
accessor_in fs i (Primitive k) = cond (in_reach fs i) (Ok (record { places = map (place fs) (line fs i); kind = k })) (Err NoAccessor)
accessor_in fs i Struct = Err NoAccessor
accessor_in fs i ListOrMap = Err NoAccessor

abbrev pub accessor_of : List Field → ℕ → Result Access Reason
accessor_of fs i = accessor_in fs i (field_at fs i).shape
