use Rattle.std.proofs.Common.{◌≡◌, ℕ, ◌<◌}
use Rattle.schema.specs.Rules.{Keeps}
use Rattle.schema.proofs.fields.Schema.check.Given as goal

abbrev pub invariant-loop-place : goal.invariant-loop-place
invariant-loop-place l =
    (l.before.schema ≡ l.self) × (l.before.count ≡ l.place) × ((j : ℕ) → j < l.place → Keeps l.self.fields.now l.self.text.now j)
