use Rattle.std.proofs.Common.{ap, ◌∙◌}
use Rattle.values.specs.declared.literals.Span.{Span}
use Rattle.values.specs.Contents.{bytes_at}
use Rattle.reading.specs.Literals.{quoteless}
use Rattle.reading.proofs.Quotes.{read_quoted, read_bare}
use Rattle.reading.proofs.literals.read_text.Goals as goal
use Rattle.reading.proofs.literals.read_text.Goals.{then-is_enclosed, else-is_enclosed}

pub returns : goal.returns
returns c =
    let line = c.args.word.line.now in
    elim c.if-is_enclosed.branch [
      | then-is_enclosed w ↦
          rw c.then_some.ensures
          (record {
            takes_the_quotes_off =
                read_quoted line c.text-text.result.now c.of.result.now c.args.word.place c.if-is_enclosed.bare c.is_quoteless.result
                c.text-text.ensures.are_the_bytes_there w.if-is_enclosed.ensures.begins_and_ends_with_one
                (ap (λ (s : Span). s.start) w.bare-is) (ap (λ (s : Span). s.len) w.bare-is)
                c.of.ensures.are_the_bytes_there c.is_quoteless.ensures.has_no_quote;
          })
      | else-is_enclosed w ↦
          rw (c.then_some.ensures, w.bare-is)
          (record {
            takes_the_quotes_off =
                read_bare line c.text-text.result.now c.args.word.place c.is_quoteless.result
                c.text-text.ensures.are_the_bytes_there w.if-is_enclosed.ensures.begins_and_ends_with_one
                (c.is_quoteless.ensures.has_no_quote ∙ ap quoteless c.of.ensures.are_the_bytes_there ∙ ap (λ (s : Span). quoteless (bytes_at line s)) w.bare-is);
          })
    ]
