use Rattle.std.proofs.Common.{add-one}
use Rattle.nodes.specs.Soundness.{fits, sound_at, used_of}
use Rattle.nodes.proofs.Lowest.{cut, not_ordered, not_counted, counted, check_hit, check_none, check_nodes, check_literals, lowest_more}
use Rattle.nodes.proofs.sound.unsound_node.Goals as goal
use Rattle.nodes.proofs.sound.unsound_node.Goals.{then-not-ordered-via-then-not-ordered, then-not-ordered-via-else-not-ordered+then-counts-n, else-used-count-via-then-used-count+else-stored-held, else-used-count-via-else-used-count}

pub loop-n-preserved : goal.loop-n-preserved
loop-n-preserved g c =
    let k = cut (g.T.Term.within c.args.extent) c.args.extent.text c.args.literals.now c.args.stored c.args.slots.now c.args.used c.min-count.result c.min-held.result _ _ c.node_room.ensures.is_the_table_or_256 c.min-count.ensures c.literal_room.ensures.is_the_table_or_1024 c.min-held.ensures in
    rw add-one (lowest_more (sound_at (fits (g.T.Term.within c.args.extent) c.args.extent.text (used_of c.args.literals.now c.args.stored)) c.args.slots.now c.min-count.result) c.loop-n.n c.loop-n.invariant
    (counted k c.loop-n-test.true c.slot-item.is _ _ c.if-not-ordered.ensures.inputs_below_and_condition_fits (c.parents-counts.ensures.counts_them c.loop-n.n) c.joined.ensures.is_one_if_joined c.if-counts-n.false))

pub returns-then-not-ordered : goal.returns-then-not-ordered
returns-then-not-ordered g c =
    let k = cut (g.T.Term.within c.args.extent) c.args.extent.text c.args.literals.now c.args.stored c.args.slots.now c.args.used c.min-count.result c.min-held.result _ _ c.node_room.ensures.is_the_table_or_256 c.min-count.ensures c.literal_room.ensures.is_the_table_or_1024 c.min-held.ensures in
    record {
      names_the_lowest = check_hit k c.loop-n.invariant c.loop-n-test.true
          (elim c.then-not-ordered.branch [
            | then-not-ordered-via-then-not-ordered w ↦ not_ordered k c.loop-n-test.true c.slot-item.is w.if-not-ordered.ensures.inputs_below_and_condition_fits
            | then-not-ordered-via-else-not-ordered+then-counts-n w ↦ not_counted k c.loop-n-test.true c.slot-item.is _ _ w.if-not-ordered.ensures.inputs_below_and_condition_fits (c.parents-counts.ensures.counts_them c.loop-n.n) w.joined.ensures.is_one_if_joined w.if-counts-n.true
          ]);
    }

pub returns-then-stored-held : goal.returns-then-stored-held
returns-then-stored-held g c =
    let k = cut (g.T.Term.within c.args.extent) c.args.extent.text c.args.literals.now c.args.stored c.args.slots.now c.args.used c.min-count.result c.min-held.result _ _ c.node_room.ensures.is_the_table_or_256 c.min-count.ensures c.literal_room.ensures.is_the_table_or_1024 c.min-held.ensures in
    record { names_the_lowest = check_none k c.loop-n.invariant c.loop-n-test.false c.loop-n.auto.n-end c.if-used-count.true c.if-stored-held.true }

pub returns-else-used-count : goal.returns-else-used-count
returns-else-used-count g c =
    let k = cut (g.T.Term.within c.args.extent) c.args.extent.text c.args.literals.now c.args.stored c.args.slots.now c.args.used c.min-count.result c.min-held.result _ _ c.node_room.ensures.is_the_table_or_256 c.min-count.ensures c.literal_room.ensures.is_the_table_or_1024 c.min-held.ensures in
    record {
      names_the_lowest = elim c.else-used-count.branch [
        | else-used-count-via-then-used-count+else-stored-held w ↦ check_literals k c.loop-n.invariant c.loop-n-test.false c.loop-n.auto.n-end w.if-used-count.true w.if-stored-held.false
        | else-used-count-via-else-used-count w ↦ check_nodes k c.loop-n.invariant c.loop-n-test.false c.loop-n.auto.n-end w.if-used-count.false
      ];
    }
