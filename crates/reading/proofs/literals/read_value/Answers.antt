use Rattle.std.proofs.Common.{◌≡◌, Some, None, rules}
use Rattle.std.specs.Option.{MatchOption}
use Rattle.values.specs.declared.literals.Value.TheVariants as V
use Rattle.reading.proofs.FloatBytes.{single_value, double_value}
use Rattle.reading.proofs.Truths.{truth_value}
use Rattle.reading.proofs.literals.read_value.Goals as goal

pub returns-in-Boolean : goal.returns-in-Boolean
returns-in-Boolean c =
    let made : MatchOption c.truth.result (c.map.result ≡ None) (λ b. c.map.result ≡ Some (V.Boolean b)) = search rules in
    record {
      goes_by_the_storage =
          truth_value c.args.word.line.now c.text-text.result.now c.args.storage c.args.word.place c.truth.result c.map.result
          c.in-Boolean.is c.text-text.ensures.are_the_bytes_there c.truth.ensures.reads_the_name made;
    }

pub returns-in-Float : goal.returns-in-Float
returns-in-Float c =
    let made : MatchOption c.parse.result (c.map-in-Float.result ≡ None) (λ x. c.map-in-Float.result ≡ Some (V.Float x)) = search rules in
    record {
      goes_by_the_storage =
          single_value c.args.word.line.now c.text-text.result.now c.args.storage c.args.word.place c.parse.result c.map-in-Float.result
          c.in-Float.is c.text-text.ensures.are_the_bytes_there c.parse.ensures.is_what_std_reads made;
    }

pub returns-in-Double : goal.returns-in-Double
returns-in-Double c =
    let made : MatchOption c.parse-in-Double.result (c.map-in-Double.result ≡ None) (λ x. c.map-in-Double.result ≡ Some (V.Double x)) = search rules in
    record {
      goes_by_the_storage =
          double_value c.args.word.line.now c.text-text.result.now c.args.storage c.args.word.place c.parse-in-Double.result c.map-in-Double.result
          c.in-Double.is c.text-text.ensures.are_the_bytes_there c.parse-in-Double.ensures.is_what_std_reads made;
    }
