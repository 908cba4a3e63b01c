use Rattle.std.proofs.Common.{◌≡◌, Err, length, rules, tests, sym, ap, ◌∙◌}
use Rattle.values.specs.declared.refusals.Reason.TheVariants.{NameNotFound}
use Rattle.schema.specs.declared.names.Case.TheVariants.{Insensitive}
use Rattle.schema.specs.Lookups.{is_named, only_of}
use Rattle.schema.proofs.Finds.{named_once}
use Rattle.schema.proofs.Hits.{found_none, found_one, found_two, was_none, was_some}
use Rattle.schema.proofs.fields.Schema.field_by_name_case_insensitive.Goals as goal

pub returns-in_err-field : goal.returns-in_err-field
returns-in_err-field c =
    let fs = c.args.self.now.fields.now in
    let t = c.args.self.now.text.now in
    let name = c.args.name.now in
    let p = is_named Insensitive fs t name in
    let none = was_none c.next.result _ c.ok_or.result c.ok_or.ensures.value c.in_err-field.was in
    let all = found_none _ p (length fs) _ _ none.0 c.next.ensures.steps c.filter-found.ensures.source c.filter-found.ensures.closure (λ j b q k. search (rules, tests)) in
    let refused : c.from_residual.result ≡ Err NameNotFound = search (rules, none.1) in
    let is = refused ∙ ap only_of (sym all) in
    record { is_the_only_one_of_that_name = is; tells_of_lowered_names = named_once fs t name _ is }

pub returns-in-None : goal.returns-in-None
returns-in-None c =
    let fs = c.args.self.now.fields.now in
    let t = c.args.self.now.text.now in
    let name = c.args.name.now in
    let p = is_named Insensitive fs t name in
    let some = was_some c.next.result c.in_ok-field.field c.ok_or.result c.ok_or.ensures.value c.in_ok-field.was in
    let all = found_one _ p (length fs) _ _ _ _ c.in_ok-field.field some c.next.ensures.steps c.in-None.is c.next-2.ensures.steps c.filter-found.ensures.source c.filter-found.ensures.closure (λ j b q k. search (rules, tests)) in
    let is = ap only_of (sym all) in
    record { is_the_only_one_of_that_name = is; tells_of_lowered_names = named_once fs t name _ is }

pub returns-in-Some : goal.returns-in-Some
returns-in-Some c =
    let fs = c.args.self.now.fields.now in
    let t = c.args.self.now.text.now in
    let name = c.args.name.now in
    let p = is_named Insensitive fs t name in
    let some = was_some c.next.result c.in_ok-field.field c.ok_or.result c.ok_or.ensures.value c.in_ok-field.was in
    let all = found_two _ p (length fs) _ _ _ _ c.in_ok-field.field _ some c.next.ensures.steps c.in-Some.is c.next-2.ensures.steps c.filter-found.ensures.source c.filter-found.ensures.closure (λ j b q k. search (rules, tests)) in
    let is = ap only_of (sym all) in
    record { is_the_only_one_of_that_name = is; tells_of_lowered_names = named_once fs t name _ is }
