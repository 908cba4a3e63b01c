use Rattle.std.proofs.Common.{ℕ, Bool, ◌&&◌, List, [], ap, ◌∙◌}
use Rattle.values.specs.Kinds.{storage_of}
use Rattle.values.specs.Contents.{content_of}
use Rattle.values.specs.Kept.{kept_in}
use Rattle.values.proofs.Spans.{same_length, then_length}
use Rattle.values.proofs.literals.Literal.is_well_kept.Goals as goal

pub returns-then-is_kept_in : goal.returns-then-is_kept_in
returns-then-is_kept_in c =
    let l = c.args.self in
    let joined = λ (t : List ℕ). then_length l _ t _ c.storage.ensures.is_the_kinds (c.if-is_kept_in.ensures.asks_the_case t) c.length_fits.ensures.asks_text_alone in
    record {
      is_kept_as_the_kind_says = joined [];
      judges_the_content = λ t h. joined t ∙ ap (λ (b : Bool). kept_in (storage_of l.kind) (content_of t l.value) && b) (same_length l.kind l.value t h);
    }
