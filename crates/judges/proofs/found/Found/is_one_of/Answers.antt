use Rattle.std.proofs.Common.{◌∙◌, rules, tests}
use Rattle.std.proofs.lemmas.Iterator.{YieldsList-from_slice}
use Rattle.std.proofs.lemmas.Iterator.Search.{any_from_yields_List}
use Rattle.values.specs.Contents.{datum_of}
use Rattle.comparison.specs.Equality.{same_datum}
use Rattle.judges.proofs.Lists.{list_any-map}
use Rattle.judges.proofs.found.Found.is_one_of.Goals as goal

pub returns-in-Some : goal.returns-in-Some
returns-in-Some c =
    let p = datum_of c.args.text.now in
    let v = datum_of c.args.self.now.text.now c.in-Some.literal in
    let asked =
    any_from_yields_List (λ l. same_datum v (p l)) _ _ c.any.result c.any.ensures.ran (YieldsList-from_slice c.args.literals.now c.iter.ensures.rest) (λ y b q k. search (rules, tests)) in
    record { asks_for_an_equal = asked ∙ rw c.in-Some.is (list_any-map p (same_datum v) c.args.literals.now) }
