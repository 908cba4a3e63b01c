use Rattle.std.proofs.Common.{[]}
use Rattle.std.proofs.lemmas.Result.{err_from_is_err_and}
use Rattle.commands.proofs.Words.{later}
use Rattle.commands.proofs.reader.Reader.last.Goals as goal

pub returns-in_err-argument : goal.returns-in_err-argument
returns-in_err-argument g c =
    let p = err_from_is_err_and c.from_residual.result c.from_residual.ensures.1 in
    record { takes_all = rw (p.1, p.2) (c.in_err-argument.ensures.takes_the_argument []) }

pub returns-in_err-end : goal.returns-in_err-end
returns-in_err-end g c =
    let p = err_from_is_err_and c.from_residual-in_err-end.result c.from_residual-in_err-end.ensures.1 in
    record {
      takes_all =
          rw (p.1, p.2)
          (later c.args.self.words c.take.new.self.words g.A1.Argument.part (g.A1.Argument.item c.in_ok-argument.argument) [] c.in_err-end.field-0.0
          c.in_ok-argument.ensures.takes_the_argument c.in_err-end.ensures.leaves_no_word);
    }
