use Rattle.std.proofs.Common.{◌+◌, ◌<◌, min, length, ap, ◌∙◌, arith}
use native.Mathlib.Nat.{sub-zero}
use Rattle.lists.specs.Keep.{kept, placed}
use Rattle.lists.proofs.Picking.{fits, fits_not, length_picked}
use Rattle.lists.proofs.picks.lay.Goals as goal

pub returns-in_err-room : goal.returns-in_err-room
returns-in_err-room g c =
    let new = kept (g.P.Test.passed c.args.policy.now) c.args.from.now in
    let past : min (length c.args.items.now) 1024 < c.args.start + length new = omega (arith, c.in_err-room.ensures, c.min.ensures) in
    let none = fits_not new c.args.items.now c.args.start (min (length c.args.items.now) 1024) past in
    record { answers_the_end = c.from_residual.ensures ∙ none.0; lays_all_or_nothing = none.1 }

pub returns-in_err-count : goal.returns-in_err-count
returns-in_err-count g c =
    let new = kept (g.P.Test.passed c.args.policy.now) c.args.from.now in
    let past : min (length c.args.items.now) 1024 < c.args.start + length new = omega (arith, c.in_err-count.ensures.picks_the_kept, c.pick.auto.picks) in
    let none = fits_not new c.args.items.now c.args.start (min (length c.args.items.now) 1024) past in
    record { answers_the_end = c.from_residual-in_err-count.ensures ∙ none.0; lays_all_or_nothing = none.1 }

pub returns-then-count-room : goal.returns-then-count-room
returns-then-count-room g c =
    let new = kept (g.P.Test.passed c.args.policy.now) c.args.from.now in
    let picked = c.in_ok-count.ensures.picks_the_kept in
    let size = length_picked new c.args.from.now c.pick.new.picks c.in_ok-count.count picked.0 picked.1 picked.2 in
    let past : min (length c.args.items.now) 1024 < c.args.start + length new = omega (arith, c.min.ensures, c.in_ok-room.ensures) in
    let none = fits_not new c.args.items.now c.args.start (min (length c.args.items.now) 1024) past in
    record { answers_the_end = none.0; lays_all_or_nothing = none.1 }

pub returns : goal.returns
returns g c =
    let new = kept (g.P.Test.passed c.args.policy.now) c.args.from.now in
    let picked = c.in_ok-count.ensures.picks_the_kept in
    let size = length_picked new c.args.from.now c.pick.new.picks c.in_ok-count.count picked.0 picked.1 picked.2 in
    let all = fits new c.args.items.now c.copy_picked.new.items c.args.start (min (length c.args.items.now) 1024) c.in_ok-count.count (omega (arith, c.min.ensures, c.in_ok-room.ensures)) size (simp sub-zero at c.copy_picked.ensures.writes_those_cells ∙ ap (placed c.args.items.now c.args.start) picked.2) in
    record { answers_the_end = all.0; lays_all_or_nothing = all.1 }
