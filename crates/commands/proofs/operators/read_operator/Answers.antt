use Rattle.std.proofs.Common.{◌∙◌}
use Rattle.commands.proofs.Forms.{no_operator, other_operator}
use Rattle.commands.proofs.operators.read_operator.Goals as goal

pub returns-in_err-as_str : goal.returns-in_err-as_str
returns-in_err-as_str c = rw c.from_residual.ensures (record { reads_the_word = no_operator c.args.text.now c.in_err-as_str.ensures.is_text_of_those_bytes })

pub returns-in_default : goal.returns-in_default
returns-in_default c =
    let same = c.in_ok-as_str.ensures.is_text_of_those_bytes in
    let other = c.in_default in
    record {
      reads_the_word =
          other_operator c.args.text.now
          (λ e. other.not-text (same ∙ e)) (λ e. other.not-text-2 (same ∙ e)) (λ e. other.not-text-3 (same ∙ e)) (λ e. other.not-text-4 (same ∙ e)) (λ e. other.not-text-5 (same ∙ e))
          (λ e. other.not-text-6 (same ∙ e)) (λ e. other.not-text-7 (same ∙ e)) (λ e. other.not-text-8 (same ∙ e)) (λ e. other.not-text-9 (same ∙ e)) (λ e. other.not-text-10 (same ∙ e))
          (λ e. other.not-text-11 (same ∙ e)) (λ e. other.not-text-12 (same ∙ e)) (λ e. other.not-in (same ∙ e)) (λ e. other.not-text-13 (same ∙ e));
    }
