-- What a visitor answers to a filter of the book is what it answers to the filter's wording, after every run.
use Rattle.std.proofs.Common.{◌≡◌, ℕ, true, List, Ok, sym, ap, ◌∙◌}
use mathlib.Core.Option.{some}
use Rattle.filters.specs.Trees.{Tree, Each}
use Rattle.filters.specs.Meanings.{Meaning, EvenHanded, Answered, walked}
use Rattle.filters.specs.Runs.{Turn, after, paper, book}
use Rattle.filters.proofs.Answers.{and_gives, or_gives, Not_gives, negated_gives, rewritten_gives, And_parts, Or_parts, Not_parts, answer}
use Rattle.filters.proofs.Stands.{Keeps, standing}

module _ {A F C : Type 0} (opposite : C → C) (m : Meaning A F C) (e : EvenHanded opposite m) where
  abbrev Alike : Tree C → Tree C → Type 0
  Alike t w = (x : A) → walked m w ≡ Ok x → walked m t ≡ Ok x

  kept : Keeps Alike (book opposite) paper
  kept = record {
    of_lay = λ t x h. h;
    of_and = λ t t' w w' g g' z h. let p = And_parts opposite m e w w' z h in and_gives opposite m e t t' p.left p.right p.left_valid p.right_valid (g p.left p.left_gives) (g' p.right p.right_gives) ∙ ap Ok (sym p.is);
    of_or = λ t t' w w' g g' z h. let p = Or_parts opposite m e w w' z h in or_gives opposite m e t t' p.left p.right p.left_valid p.right_valid (g p.left p.left_gives) (g' p.right p.right_gives) ∙ ap Ok (sym p.is);
    of_not = λ t w g z h. let p = Not_parts opposite m e w z h in Not_gives opposite m e t p.0 p.1 (g p.0 p.2) ∙ ap Ok (sym p.3);
    of_negate = λ t w g z h. let p = Not_parts opposite m e w z h in negated_gives opposite m e t p.0 (g p.0 p.2) ∙ ap Ok (sym p.3);
    of_rewrite = λ t w g z h. rewritten_gives opposite m e true t z (g z h);
  }

  pub worded : (run : List (Turn C)) (n : ℕ) (wording : Tree C) → after paper run n ≡ some wording → Each (Answered m) wording → (t : Tree C) × (after (book opposite) run n ≡ some t) × (x : A) × (walked m wording ≡ Ok x) × (walked m t ≡ Ok x)
  worded run n wording h answered =
      let a = answer opposite m e wording answered in
      let s = standing Alike (book opposite) paper kept run n wording h in
      (s.0, s.1, a.0, a.1, s.2 a.0 a.1)
