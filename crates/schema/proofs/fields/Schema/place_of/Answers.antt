use Rattle.std.proofs.Common.{ℕ, eqb, rules, tests, ◌∙◌}
use Rattle.std.specs.Option.{option_eq}
use Rattle.std.proofs.lemmas.Iterator.Consumers.{count_from_yields_List}
use Rattle.schema.specs.Lines.{parent_of}
use Rattle.schema.proofs.Counting.{place_by_eq}
use Rattle.schema.proofs.Hits.{yields_hits, length-hits}
use Rattle.schema.proofs.fields.Schema.place_of.Goals as goal

pub returns-clause-counts_the_earlier_of_its_parent : goal.returns-clause-counts_the_earlier_of_its_parent
returns-clause-counts_the_earlier_of_its_parent c =
    let fs = c.args.self.now.fields.now in
    let i = c.args.i in
    let p = λ (j : ℕ). option_eq eqb (parent_of fs j) (parent_of fs i) in
    count_from_yields_List c.filter.result c.count.result c.count.ensures.ran (yields_hits _ p i c.filter.ensures.source c.filter.ensures.closure (λ j b q k. search (rules, tests)))
    ∙ length-hits p i
    ∙ place_by_eq fs i
