-- The evaluator counts unknown as false.
use Rattle.std.proofs.Common.{◌≡◌, Bool, true, false, not, ◌&&◌, ◌||◌, List, [], ◌∷◌, Some, None, Option, Ordering, Ok, Err, Result, refl, ap, ◌∙◌}
use Rattle.std.specs.List.{list_all}
use Rattle.values.specs.Contents.{Datum, Content, number, bytes, above_max, below_min}
use Rattle.filters.specs.Trees.{constant, condition as leaf, And, Or, Not}
use Rattle.filters.specs.Meanings.{then, walked}
use Rattle.nodes.specs.declared.operators.PredicateOperator.{PredicateOperator}
use Rattle.rows.specs.Reached.{RowFunction, is_extreme}
use Rattle.walk.specs.declared.faults.Fault.{Fault}
use Rattle.judges.specs.declared.verdicts.Verdict.{Verdict}
use Rattle.judges.specs.declared.verdicts.Verdict.TheVariants.{True, False, Unknown}
use Rattle.judges.specs.Verdicts.{is_true, both as conjoined, either as disjoined}
use Rattle.judges.specs.Reading.{value_at, operator, column, literals}
use Rattle.judges.specs.Answers.{answer, beyond, stands, stands_or_beyond}
use Rattle.judges.specs.Visitors.{judging}
use Rattle.judges.specs.Agreement.{counted, CountsUnknownAsFalse}

true_both : (v u : Verdict) → (is_true v && is_true u) ≡ is_true (conjoined v u)
true_both True u = refl
true_both False u = refl
true_both Unknown True = refl
true_both Unknown False = refl
true_both Unknown Unknown = refl

true_either : (v u : Verdict) → (is_true v || is_true u) ≡ is_true (disjoined v u)
true_either True u = refl
true_either False u = refl
true_either Unknown True = refl
true_either Unknown False = refl
true_either Unknown Unknown = refl

counted_both : (a b : Result Verdict Fault) → then (counted a) (λ x. then (counted b) (λ y. Ok (x && y))) ≡ counted (then a (λ v. then b (λ u. Ok (conjoined v u))))
counted_both (Ok v) (Ok u) = ap Ok (true_both v u)
counted_both (Ok v) (Err e) = refl
counted_both (Err e) b = refl

counted_either : (a b : Result Verdict Fault) → then (counted a) (λ x. then (counted b) (λ y. Ok (x || y))) ≡ counted (then a (λ v. then b (λ u. Ok (disjoined v u))))
counted_either (Ok v) (Ok u) = ap Ok (true_either v u)
counted_either (Ok v) (Err e) = refl
counted_either (Err e) b = refl

not_beyond : (c : Content) (rest : Bool) (o : Option Ordering) → (not (is_extreme c) && rest) ≡ true → o ≡ beyond c o
not_beyond (number s n) rest o h = refl
not_beyond (bytes s b) rest o h = refl
not_beyond above_max rest o h = absurd (cc)
not_beyond below_min rest o h = absurd (cc)

one_standing : (v : Option Datum) (ls : List Datum) → list_all (λ l. not (is_extreme l.content)) ls ≡ true → stands v ls ≡ stands_or_beyond v ls
one_standing None [] h = refl
one_standing (Some v) [] h = refl
one_standing v (l ∷ ls) h = not_beyond l.content (list_all (λ l. not (is_extreme l.content)) ls) (stands v (l ∷ ls)) h

counted_answer : (o : PredicateOperator) (ls : List Datum) (r : Result (Option Datum) Fault) → list_all (λ l. not (is_extreme l.content)) ls ≡ true
    → then (then r (λ v. Ok (answer o (stands v ls) v ls))) (λ v. Ok (is_true v)) ≡ counted (then r (λ v. Ok (answer o (stands_or_beyond v ls) v ls)))
counted_answer o ls (Ok v) h = ap (λ s. Ok (is_true (answer o s v ls))) (one_standing v ls h)
counted_answer o ls (Err e) h = refl

pub counts_unknown_as_false : (row : RowFunction) → CountsUnknownAsFalse row
counts_unknown_as_false row (constant true) n o = refl
counts_unknown_as_false row (constant false) n o = refl
counts_unknown_as_false row (leaf c) n o = counted_answer (operator c) (literals c) (value_at row (column c)) o
counts_unknown_as_false row (And l r) n o =
    (λ i. then (counts_unknown_as_false row l n.0 o.0 i) (λ x. then (counts_unknown_as_false row r n.1 o.1 i) (λ y. Ok (x && y)))) ∙ counted_both (walked (judging row) l) (walked (judging row) r)
counts_unknown_as_false row (Or l r) n o =
    (λ i. then (counts_unknown_as_false row l n.0 o.0 i) (λ x. then (counts_unknown_as_false row r n.1 o.1 i) (λ y. Ok (x || y)))) ∙ counted_either (walked (judging row) l) (walked (judging row) r)
counts_unknown_as_false row (Not t) n o = absurd n
