use Rattle.std.proofs.Common.{[], ◌∷◌}
use Rattle.std.proofs.lemmas.Result.{err_from_is_err_and}
use Rattle.commands.proofs.Words.{later}
use Rattle.commands.proofs.reader.Reader.two.Goals as goal

pub returns-in_err-first : goal.returns-in_err-first
returns-in_err-first g c =
    let p = err_from_is_err_and c.from_residual.result c.from_residual.ensures.1 in
    record { takes_all = rw (p.1, p.2) (c.in_err-first.ensures.takes_the_argument (g.A2.Argument.part ∷ [])) }

pub returns-in_err-second : goal.returns-in_err-second
returns-in_err-second g c =
    let p = err_from_is_err_and c.from_residual-in_err-second.result c.from_residual-in_err-second.ensures.1 in
    record {
      takes_all =
          rw (p.1, p.2)
          (later c.args.self.words c.take.new.self.words g.A1.Argument.part (g.A1.Argument.item c.in_ok-first.first) (g.A2.Argument.part ∷ []) c.in_err-second.field-0.0
          c.in_ok-first.ensures.takes_the_argument c.in_err-second.ensures.takes_all);
    }
