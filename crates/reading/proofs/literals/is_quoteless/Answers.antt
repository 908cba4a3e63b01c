use Rattle.std.proofs.Common.{not, ap, ◌∙◌}
use Rattle.reading.proofs.Quotes.{none_is_quote}
use Rattle.reading.proofs.literals.is_quoteless.Goals as goal

pub returns : goal.returns
returns c = record { has_no_quote = ap not c.contains.ensures.value ∙ none_is_quote c.args.text.now }
