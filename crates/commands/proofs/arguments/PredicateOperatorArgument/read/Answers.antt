use Rattle.commands.proofs.Words.{operator_argument}
use Rattle.commands.proofs.arguments.PredicateOperatorArgument.read.Goals as goal

pub returns : goal.returns
returns c = record { reads_the_word = operator_argument c.args.word.line.now c.text.result.now c.args.word.place c.read_operator.result c.text.ensures.are_the_bytes_there c.read_operator.ensures.reads_the_word }
