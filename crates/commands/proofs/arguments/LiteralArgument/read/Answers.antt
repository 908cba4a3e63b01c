use Rattle.commands.proofs.Words.{literal_argument}
use Rattle.commands.proofs.arguments.LiteralArgument.read.Goals as goal

pub returns : goal.returns
returns c = record { reads_the_word = literal_argument c.args.word.line.now c.args.word.place c.read_literal.result c.read_literal.ensures.is_written_so }
