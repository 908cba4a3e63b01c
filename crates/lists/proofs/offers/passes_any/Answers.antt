use Rattle.std.proofs.Common.{◌≡◌, Bool, ◌||◌, List, [], ◌∷◌, refl, ap, rules, tests, ◌∙◌}
use Rattle.std.specs.List.{list_any}
use Rattle.std.proofs.lemmas.Iterator.{YieldsList-from_slice}
use Rattle.std.proofs.lemmas.Iterator.Search.{any_from_yields_List}
use Rattle.lists.specs.Keep.{against}
use Rattle.lists.proofs.offers.passes_any.Goals as goal

any-against : {X : Type 0} (p : X → X → Bool) (held : List X) (x : X) → list_any (λ y. p y x) held ≡ against p held x
any-against p [] x = refl
any-against p (y ∷ held) x = ap (λ b. p y x || b) (any-against p held x)

pub returns : goal.returns
returns g c =
    let p = g.P.Test.passed c.args.policy.now in
    let x = c.args.x.now in
    let held = YieldsList-from_slice c.args.held.now (cc) in
    record { passes_against_one = any_from_yields_List (λ y. p y x) _ _ c.any.result c.any.ensures.ran held (λ y b q k. search (rules, tests)) ∙ any-against p _ x }
