use Rattle.std.proofs.Common.{codes, arith, rules}
use Rattle.std.proofs.lemmas.Slice.Eq.{text_from_reads}
use Rattle.commands.specs.declared.command.Presence.TheVariants as P
use Rattle.commands.proofs.Words.{presence_argument}
use Rattle.commands.proofs.arguments.PresenceArgument.read.Goals as goal

pub returns-in-required : goal.returns-in-required
returns-in-required c =
    let same = text_from_reads c.text.result.now (codes "required") (omega arith) (search rules) in
    record { reads_the_word = presence_argument _ _ _ P.Required c.text.ensures.are_the_bytes_there same }

pub returns-in-optional : goal.returns-in-optional
returns-in-optional c =
    let same = text_from_reads c.text.result.now (codes "optional") (omega arith) (search rules) in
    record { reads_the_word = presence_argument _ _ _ P.Optional c.text.ensures.are_the_bytes_there same }
