use Rattle.std.proofs.Common.{sym, ap, ◌∙◌}
use Rattle.floats.specs.TotalOrder.{sign_order}
use Rattle.floats.proofs.Ranks.{both_nan, number_first, numeric, by_signs, signs}
use Rattle.floats.proofs.order.place.Goals as goal

pub returns-in-true-true-clause-is_total_order : goal.returns-in-true-true-clause-is_total_order
returns-in-true-true-clause-is_total_order g c = sym (both_nan _ _ (sym c.in-true-true.ensures.tells) (sym c.in-true-true.ensures'.tells))

pub returns-in-false-true-clause-is_total_order : goal.returns-in-false-true-clause-is_total_order
returns-in-false-true-clause-is_total_order g c = sym (number_first _ _ (sym c.in-false-true.ensures.tells) (sym c.in-false-true.ensures'.tells))

pub returns-then-is_less-clause-is_total_order : goal.returns-then-is_less-clause-is_total_order
returns-then-is_less-clause-is_total_order g c = sym (numeric _ _ (sym c.if-is_less.ensures.tells))

pub returns-else-is_less-2-clause-is_total_order : goal.returns-else-is_less-2-clause-is_total_order
returns-else-is_less-2-clause-is_total_order g c =
    let x = sym c.in-false-false.ensures.tells in
    let y = sym c.in-false-false.ensures'.tells in
    c.cmp.ensures
    ∙ signs _ _
    ∙ ap (λ s. sign_order s c.is_negative.result) (c.is_negative-else-is_less-2.ensures.tells_of_a_number x)
    ∙ ap (sign_order _) (c.is_negative.ensures.tells_of_a_number y)
    ∙ sym (by_signs _ _ x y (sym c.if-is_less.ensures.tells) (sym c.if-is_less-2.ensures.tells))
