use Rattle.std.proofs.Common.{length, rules, tests, ◌∙◌}
use native.Mathlib.Nat.{sub-zero}
use Rattle.std.proofs.lemmas.Iterator.{YieldsList-from_range}
use Rattle.std.proofs.lemmas.Iterator.Search.{find_from_yields_List}
use Rattle.schema.specs.declared.names.Case.TheVariants.{Sensitive}
use Rattle.schema.specs.Lookups.{is_named}
use Rattle.schema.proofs.Finds.{first_named, found_only}
use Rattle.schema.proofs.Hits.{found_first}
use Rattle.schema.proofs.fields.Schema.field_by_name.Goals as goal

pub returns : goal.returns
returns c =
    let fs = c.args.self.now.fields.now in
    let t = c.args.self.now.text.now in
    let name = c.args.name.now in
    let p = is_named Sensitive fs t name in
    let found = find_from_yields_List p _ _ c.find.result c.find.ensures.ran (YieldsList-from_range 0 (length fs) (length fs) (cc) (sub-zero (length fs))) (λ j b q k. search (rules, tests)) in
    let is = c.ok_or.ensures.value ∙ found_first p (length fs) c.find.result found in
    record {
      is_the_first_of_that_name = is;
      tells_of_full_names = first_named fs t name c.ok_or.result is;
      is_the_only_one_in_a_sound_schema = found_only fs t name c.ok_or.result (first_named fs t name c.ok_or.result is);
    }
