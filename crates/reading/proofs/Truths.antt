-- Truth values by name.
use Rattle.std.proofs.Common.{◌≡◌, Bool, cond, List, ℕ, Some, None, codes, Option, sym, refl, ◌∙◌}
use Rattle.std.specs.Option.{MatchOption}
use Rattle.values.specs.declared.kinds.Storage.{Storage}
use Rattle.values.specs.declared.kinds.Storage.TheVariants as S
use Rattle.values.specs.declared.literals.Span.{Span}
use Rattle.values.specs.declared.literals.Value.{Value}
use Rattle.values.specs.declared.literals.Value.TheVariants as V
use Rattle.values.specs.Contents.{bytes_at}
use Rattle.reading.specs.Writing.{Reads}
use Rattle.reading.specs.Placed.{ValueRead}

pub truth_value : (line t : List ℕ) (s : Storage) (w : Span) (o : Option Bool) (m : Option Value) → s ≡ S.Boolean → t ≡ bytes_at line w
    → Reads (λ b u. u ≡ cond b (codes "true") (codes "false")) t o → MatchOption o (m ≡ None) (λ b. m ≡ Some (V.Boolean b)) → ValueRead line s w m
truth_value line t s w (Some b) m k e r g = rw (k, g) ((b, (refl, (sym e ∙ r))), λ o. refl)
truth_value line t s w None m k e r g = rw (k, g) (λ c v. r v.0 (e ∙ v.1.1))
