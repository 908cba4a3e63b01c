use Rattle.std.proofs.Common.{rules, ◌∙◌, sym, not}
use Rattle.std.proofs.lemmas.Iterator.{YieldsList-from_slice}
use Rattle.std.proofs.lemmas.Iterator.Search.{position_from_yields_List}
use borrow.Author.Tests.{tests}
use Rattle.values.specs.Contents.{text_inside}
use Rattle.values.specs.Kept.{well_kept}
use Rattle.values.proofs.Failing.{is_first, none, outside, ill_kept, granted}
use Rattle.values.proofs.admission.admit.Goals as goal

pub returns-in-Some : goal.returns-in-Some
returns-in-Some c =
    let e = is_first (λ l. text_inside c.args.bytes l.value) c.args.literals.now _
    (position_from_yields_List (λ l. not (text_inside c.args.bytes l.value)) _ _ _ c.position.ensures.ran (YieldsList-from_slice c.args.literals.now c.iter.ensures.rest) (λ x b q k. search (rules, tests))) in
    record { names_the_first_at_fault = outside c.args.bytes c.args.literals.now _ _ (sym e ∙ c.in-Some.is) c.at.ensures.is_for_the_reason c.at.ensures.is_at_the_place }

pub returns-in-Some-position : goal.returns-in-Some-position
returns-in-Some-position c =
    let e = is_first (λ l. text_inside c.args.bytes l.value) c.args.literals.now _
    (position_from_yields_List (λ l. not (text_inside c.args.bytes l.value)) _ _ _ c.position.ensures.ran (YieldsList-from_slice c.args.literals.now c.iter.ensures.rest) (λ x b q k. search (rules, tests))) in
    let f = is_first well_kept c.args.literals.now _
    (position_from_yields_List (λ l. not (well_kept l)) _ _ _ c.position-2.ensures.ran (YieldsList-from_slice c.args.literals.now c.iter-2.ensures.rest) (λ x b q k. search (rules, tests))) in
    record { names_the_first_at_fault = ill_kept c.args.bytes c.args.literals.now _ _ (sym e ∙ none _ c.in_default.not-Some) (sym f ∙ c.in-Some-position.is) c.at-in-Some-position.ensures.is_for_the_reason c.at-in-Some-position.ensures.is_at_the_place }

pub returns-in-None : goal.returns-in-None
returns-in-None c =
    let e = is_first (λ l. text_inside c.args.bytes l.value) c.args.literals.now _
    (position_from_yields_List (λ l. not (text_inside c.args.bytes l.value)) _ _ _ c.position.ensures.ran (YieldsList-from_slice c.args.literals.now c.iter.ensures.rest) (λ x b q k. search (rules, tests))) in
    let f = is_first well_kept c.args.literals.now _
    (position_from_yields_List (λ l. not (well_kept l)) _ _ _ c.position-2.ensures.ran (YieldsList-from_slice c.args.literals.now c.iter-2.ensures.rest) (λ x b q k. search (rules, tests))) in
    record { names_the_first_at_fault = granted c.args.bytes c.args.literals.now (sym e ∙ none _ c.in_default.not-Some) (sym f ∙ c.in-None.is) }
