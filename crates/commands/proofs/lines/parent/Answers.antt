use Rattle.std.proofs.Common.{[], ◌∷◌}
use Rattle.std.proofs.lemmas.Result.{err_from_is_err_and}
use Rattle.reading.specs.NextWord.{words_left}
use Rattle.commands.specs.Grammar.{a_number}
use Rattle.commands.proofs.Forms.{parent_begins}
use Rattle.commands.proofs.lines.parent.Goals as goal

pub returns-in_err-pass : goal.returns-in_err-pass
returns-in_err-pass c =
    let p = err_from_is_err_and c.from_residual.result c.from_residual.ensures.1 in
    record { is_all_or_nothing = rw (p.1, p.2) (rw (parent_begins (words_left c.args.reader.words) c.if-is_done.ensures.tells_the_end) (c.in_err-pass.ensures.takes_the_word (a_number 64 ∷ []))) }
