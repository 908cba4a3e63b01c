use Rattle.std.proofs.Common.{[], ◌∷◌, codes, refl}
use Rattle.std.proofs.lemmas.Result.{err_from_is_err_and}
use Rattle.commands.specs.Spelling.{literal, word, kind}
use Rattle.commands.specs.Grammar.{the, a_literal, a_kind}
use Rattle.commands.proofs.Words.{later, spelt}
use Rattle.commands.proofs.lines.convert.Goals as goal

pub returns-in_err-literal : goal.returns-in_err-literal
returns-in_err-literal c =
    let p = err_from_is_err_and c.from_residual.result c.from_residual.ensures.1 in
    record { takes_literal_and_kind = λ place. rw (p.1, p.2) (c.in_err-literal.ensures.takes_the_argument (the (codes "to") ∷ a_kind ∷ [])) }

pub returns-in_err-pass : goal.returns-in_err-pass
returns-in_err-pass c =
    let p = err_from_is_err_and c.from_residual-in_err-pass.result c.from_residual-in_err-pass.ensures.1 in
    record {
      takes_literal_and_kind = λ place.
          rw (p.1, p.2)
          (later c.args.reader.words c.take.new.self.words a_literal (literal c.in_ok-literal.literal) (the (codes "to") ∷ a_kind ∷ []) c.in_err-pass.field-0.0
          c.in_ok-literal.ensures.takes_the_argument (c.in_err-pass.ensures.takes_the_word (a_kind ∷ [])));
    }

pub returns-in_err-kind : goal.returns-in_err-kind
returns-in_err-kind c =
    let m = c.in_err-kind.field-0.0 in
    let p = err_from_is_err_and c.from_residual-in_err-kind.result c.from_residual-in_err-kind.ensures.1 in
    record {
      takes_literal_and_kind = λ place.
          rw (p.1, p.2)
          (later c.args.reader.words c.take.new.self.words a_literal (literal c.in_ok-literal.literal) (the (codes "to") ∷ a_kind ∷ []) m
          c.in_ok-literal.ensures.takes_the_argument
          (later c.take.new.self.words c.pass.new.self.words (the (codes "to")) (word (codes "to")) (a_kind ∷ []) m
          c.in_ok-pass.ensures.takes_the_word c.in_err-kind.ensures.takes_all));
    }

pub returns : goal.returns
returns c =
    record {
      takes_literal_and_kind = λ place. (
        refl,
        (
          refl,
          spelt c.args.reader.words c.take.new.self.words a_literal (literal c.in_ok-literal.literal) (word (codes "to") ∷ kind c.in_ok-kind.kind ∷ []) c.in_ok-literal.ensures.takes_the_argument
              (spelt c.take.new.self.words c.pass.new.self.words (the (codes "to")) (word (codes "to")) (kind c.in_ok-kind.kind ∷ []) c.in_ok-pass.ensures.takes_the_word c.in_ok-kind.ensures.takes_all),
        ),
      );
    }
