use Rattle.std.proofs.Common.{refl}
use Rattle.book.proofs.Edited.{read_node, leaf}
use Rattle.walk.proofs.Rooms.{full, left_next, input_next, waiting_next, nothing_waits}
use Rattle.walk.proofs.walks.fits.Goals as goal

pub returns-then-rest-eq0 : goal.returns-then-rest-eq0
returns-then-rest-eq0 g c = record { counts_its_nodes = full c.nodes.invariant c.if-rest-eq0.true }

pub nodes-smaller : goal.nodes-smaller
nodes-smaller g c = (left_next c.nodes.invariant c.if-rest-eq0.false _ _ _ c.in-And.is c.push.ensures.waits_on_top c.push.ensures.keeps_the_table).less

pub nodes-preserved : goal.nodes-preserved
nodes-preserved g c = (left_next c.nodes.invariant c.if-rest-eq0.false _ _ _ c.in-And.is c.push.ensures.waits_on_top c.push.ensures.keeps_the_table).count

pub nodes-smaller-in-Not : goal.nodes-smaller-in-Not
nodes-smaller-in-Not g c = (input_next c.nodes.invariant c.if-rest-eq0.false _ c.in-Not.is).less

pub nodes-preserved-in-Not : goal.nodes-preserved-in-Not
nodes-preserved-in-Not g c = (input_next c.nodes.invariant c.if-rest-eq0.false _ c.in-Not.is).count

pub returns-in-None : goal.returns-in-None
returns-in-None g c =
    let l = leaf c.args.slots.now c.nodes.at _ (read_node c.args.slots.now c.nodes.at _ _ c.nodes.invariant.whole.inside refl) c.in_default.not-And c.in_default.not-Or c.in_default.not-Not in
    record { counts_its_nodes = nothing_waits c.nodes.invariant c.if-rest-eq0.false l c.in-None.ensures.is_the_top }

pub nodes-smaller-in-Some : goal.nodes-smaller-in-Some
nodes-smaller-in-Some g c =
    let l = leaf c.args.slots.now c.nodes.at _ (read_node c.args.slots.now c.nodes.at _ _ c.nodes.invariant.whole.inside refl) c.in_default.not-And c.in_default.not-Or c.in_default.not-Not in
    (waiting_next c.nodes.invariant c.if-rest-eq0.false l c.in-Some.frame _ _ _ c.in-Some.ensures.is_the_top c.in-Some.ensures.keeps_the_table c.node.ensures.is_its_own).less

pub nodes-preserved-in-Some : goal.nodes-preserved-in-Some
nodes-preserved-in-Some g c =
    let l = leaf c.args.slots.now c.nodes.at _ (read_node c.args.slots.now c.nodes.at _ _ c.nodes.invariant.whole.inside refl) c.in_default.not-And c.in_default.not-Or c.in_default.not-Not in
    (waiting_next c.nodes.invariant c.if-rest-eq0.false l c.in-Some.frame _ _ _ c.in-Some.ensures.is_the_top c.in-Some.ensures.keeps_the_table c.node.ensures.is_its_own).count
