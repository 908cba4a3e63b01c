use Rattle.std.proofs.Common.{sym, ap, ◌∙◌, refl, arith}
use Rattle.nodes.specs.Tables.{nodes}
use Rattle.nodes.specs.declared.slots.Mark.TheVariants.{Struck}
use Rattle.book.specs.Edits.{struck}
use Rattle.nodes.proofs.Found.{at_other, one_not}
use Rattle.book.proofs.Edited.{read_cut, mark_is, joins_cut, two_join, leaf, strike_leaf, strike_first, strike_second, strike_two, strike_only, strike_one}
use Rattle.book.proofs.edits.+strike.Goals as goal
use Rattle.book.proofs.edits.+strike.Goals.{in-And, in-And-2}

pub strike-requires : goal.strike-requires
strike-requires g t c κs within =
    let xs = c.args.slots.now in
    let n = c.args.at in
    let e = mark_is xs n c.index-slots-i.result Struck c.requires.inside in
    let one = one_not xs n c.in-Not.x (read_cut xs n c.index-slots-i.result _ _ c.requires.inside c.in-Not.is) c.requires in
    (omega (arith, one.under, c.decreases), (within, strike_only xs n e one.whole))

pub returns-in-Not : goal.returns-in-Not
returns-in-Not g t c =
    let xs = c.args.slots.now in
    let n = c.args.at in
    let e = mark_is xs n c.index-slots-i.result Struck c.requires.inside in
    let d = read_cut xs n c.index-slots-i.result _ _ c.requires.inside c.in-Not.is in
    let one = one_not xs n c.in-Not.x d c.requires in
    record { strikes_each_node = strike_one xs n e one.whole c.strike.ensures.strikes_each_node ∙ sym (ap (λ p. struck p xs) (at_other (nodes xs) n c.in-Not.x d one.under)) }

pub returns-in_default : goal.returns-in_default
returns-in_default g t c =
    let xs = c.args.slots.now in
    let n = c.args.at in
    let e = mark_is xs n c.index-slots-i.result Struck c.requires.inside in
    record { strikes_each_node = strike_leaf xs _ n e (leaf xs n _ (read_cut xs n c.index-slots-i.result _ _ c.requires.inside refl) c.in_default.not-And c.in_default.not-Or c.in_default.not-Not) }

pub strike-requires-in-And : goal.strike-requires-in-And
strike-requires-in-And g t c κs within =
    let xs = c.args.slots.now in
    let n = c.args.at in
    let e = mark_is xs n c.index-slots-i.result Struck c.requires.inside in
    elim c.in-And-1.branch [
      | in-And w ↦ let j = joins_cut xs n c.index-slots-i.result _ _ _ _ _ c.requires.inside w.in-And.is w.l-is w.r-is in let two = two_join xs n j.by _ _ j.is c.requires in (omega (arith, two.left, c.decreases), (within, strike_first xs n e two))
      | in-And-2 w ↦ let j = joins_cut xs n c.index-slots-i.result _ _ _ _ _ c.requires.inside w.in-And.is w.l-is w.r-is in let two = two_join xs n j.by _ _ j.is c.requires in (omega (arith, two.left, c.decreases), (within, strike_first xs n e two))
    ]

pub strike-requires-in-And-2 : goal.strike-requires-in-And-2
strike-requires-in-And-2 g t c κs within =
    let xs = c.args.slots.now in
    let n = c.args.at in
    let e = mark_is xs n c.index-slots-i.result Struck c.requires.inside in
    elim c.in-And-1.branch [
      | in-And w ↦ let j = joins_cut xs n c.index-slots-i.result _ _ _ _ _ c.requires.inside w.in-And.is w.l-is w.r-is in let two = two_join xs n j.by _ _ j.is c.requires in (omega (arith, two.right, c.decreases), (within, strike_second xs n e two c.strike-in-And.ensures.strikes_each_node))
      | in-And-2 w ↦ let j = joins_cut xs n c.index-slots-i.result _ _ _ _ _ c.requires.inside w.in-And.is w.l-is w.r-is in let two = two_join xs n j.by _ _ j.is c.requires in (omega (arith, two.right, c.decreases), (within, strike_second xs n e two c.strike-in-And.ensures.strikes_each_node))
    ]

pub returns-in-And : goal.returns-in-And
returns-in-And g t c =
    let xs = c.args.slots.now in
    let n = c.args.at in
    let e = mark_is xs n c.index-slots-i.result Struck c.requires.inside in
    record {
      strikes_each_node = elim c.in-And-1.branch [
        | in-And w ↦ let j = joins_cut xs n c.index-slots-i.result _ _ _ _ _ c.requires.inside w.in-And.is w.l-is w.r-is in strike_two xs n e (two_join xs n j.by _ _ j.is c.requires) j c.strike-in-And.ensures.strikes_each_node c.strike-in-And-2.ensures.strikes_each_node
        | in-And-2 w ↦ let j = joins_cut xs n c.index-slots-i.result _ _ _ _ _ c.requires.inside w.in-And.is w.l-is w.r-is in strike_two xs n e (two_join xs n j.by _ _ j.is c.requires) j c.strike-in-And.ensures.strikes_each_node c.strike-in-And-2.ensures.strikes_each_node
      ];
    }
