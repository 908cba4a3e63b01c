use Rattle.std.proofs.Common.{codes, arith, rules}
use Rattle.std.proofs.lemmas.Slice.Eq.{text_from_reads}
use Rattle.commands.specs.declared.command.Column.TheVariants as T
use Rattle.commands.proofs.Words.{column_argument}
use Rattle.commands.proofs.arguments.ColumnArgument.read.Goals as goal

pub returns-in-struct : goal.returns-in-struct
returns-in-struct c =
    let same = text_from_reads c.text.result.now (codes "struct") (omega arith) (search rules) in
    record { reads_the_word = column_argument _ _ _ T.Struct c.text.ensures.are_the_bytes_there same }

pub returns-in-list : goal.returns-in-list
returns-in-list c =
    let same = text_from_reads c.text.result.now (codes "list") (omega arith) (search rules) in
    record { reads_the_word = column_argument _ _ _ T.List c.text.ensures.are_the_bytes_there same }
