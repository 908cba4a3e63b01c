-- What a bound condition is, apart from where its places, its literals and their text lie.
use Rattle.std.specs.Prelude.{ℕ, false, cond, List, map, slice_index_or}
use Rattle.values.specs.declared.kinds.Kind.TheVariants as K
use Rattle.values.specs.declared.literals.Literal.{Literal}
use Rattle.values.specs.declared.literals.Value.TheVariants as V
use Rattle.values.specs.Contents.{Datum, datum_of}
use Rattle.nodes.specs.declared.operators.PredicateOperator.{PredicateOperator}
use Rattle.nodes.specs.Operators.{is_unary, is_binary}
use Rattle.nodes.specs.Conditions.{Condition, unary, binary, among, reading}
use Rattle.nodes.specs.Tables.{Held}
use Rattle.columns.specs.declared.column.Column.{Column}
use Rattle.columns.specs.Bound.{Bound, bound_of, cells_at}
use Rattle.walk.specs.declared.conditions.Test.{Test}

abbrev pub Tested : Type 0
Tested = Condition Bound Datum (List Datum)

-- what stands past the literals' end
abbrev pub nothing : Literal
nothing = record { kind = K.Boolean; value = V.Boolean false }

-- what an operator makes of a bound column and literals: none of them, the first, or all
abbrev pub tested_by : List ℕ → PredicateOperator → Bound → List Literal → Tested
tested_by text o b ls =
    cond (is_unary o) (unary o b)
    (cond (is_binary o) (binary o b (datum_of text (slice_index_or ls 0 nothing))) (among o b (map (datum_of text) ls)))

-- a condition as it is lent to a visitor
abbrev pub tested : Test → Tested
tested t = tested_by t.text.now t.op (record { field = t.field; kind = t.kind; places = t.places.now; mandatory = t.mandatory }) t.literals.now

-- a node's condition, read from the tables of places and literals
abbrev pub content : List ℕ → List ℕ → List Literal → Held Column → Tested
content places text ls = reading (bound_of places) (λ i. datum_of text (slice_index_or ls i nothing)) (λ r. map (datum_of text) (cells_at ls r))
