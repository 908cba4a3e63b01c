use Rattle.std.proofs.Common.{◌≡◌, true, Equal, sym, ap, ◌∙◌}
use Rattle.std.specs.Cmp.{Equal-is}
use Rattle.floats.specs.Patterns.{rank}
use Rattle.floats.specs.TotalOrder.{placed}
use Rattle.floats.proofs.Ranks.{level_is_one, level_self, decided}
use Rattle.floats.proofs.order.same.Goals as goal

pub returns : goal.returns
returns g c =
    let f = g.F.Floating.format in
    let x = g.F.Floating.datum c.args.a in
    let y = g.F.Floating.datum c.args.b in
    let fit = c.place.ensures.both_are_of_the_format in
    let p = fit.0 in
    let q = fit.1 in
    let standing = c.place.ensures.is_total_order in
    let test = Equal-is c.place.result in
    let level-of = λ (h : c.is_eq.result ≡ true). sym standing ∙ test.0 (sym c.is_eq.ensures ∙ h) in
    let test_of = λ (h : placed x y ≡ Equal). c.is_eq.ensures ∙ test.1 (standing ∙ h) in
    record {
      puts_neither_first = (level-of, test_of);
      is_of_one_datum = (λ h. level_is_one f x y p q (level-of h), λ e. test_of (level_self f x y p q (ap (rank f) e)));
      compares_bit_patterns = decided _ (rank f x) (rank f y) (λ h. ap (rank f) (level_is_one f x y p q (level-of h))) (λ e. test_of (level_self f x y p q e));
    }
