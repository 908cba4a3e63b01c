-- Counts of parents, raised node by node.
use Rattle.std.specs.Prelude.{ℕ, ◌+◌, cond, List, length, nat_lt, slice_index, slice_set}
use Rattle.filters.specs.Placed.{Form, always, test, both, either, other}
use Rattle.nodes.specs.declared.slots.Mark.{Mark}
use Rattle.nodes.specs.declared.slots.Mark.TheVariants.{Standing, Joined, Struck}
use Rattle.nodes.specs.declared.slots.Slot.{Slot}
use Rattle.nodes.specs.Tables.{form}

-- one more at a number that has a count
abbrev pub bumped : List ℕ → ℕ → List ℕ
bumped counts n = cond (nat_lt n (length counts)) (slice_set counts n (slice_index counts n + 1)) counts

-- one more for each input
abbrev pub raised : {X : Type 0} → Form X → List ℕ → List ℕ
raised (always b) counts = counts
raised (test c) counts = counts
raised (both l r) counts = bumped (bumped counts l) r
raised (either l r) counts = bumped (bumped counts l) r
raised (other i) counts = bumped counts i

-- unless the node is struck
abbrev pub claimed_by : {X : Type 0} → Mark → Form X → List ℕ → List ℕ
claimed_by Standing x counts = raised x counts
claimed_by Joined x counts = raised x counts
claimed_by Struck x counts = counts

abbrev pub claimed : {T : Type 0} → Slot T → List ℕ → List ℕ
claimed s counts = claimed_by s.mark (form s.node) counts
