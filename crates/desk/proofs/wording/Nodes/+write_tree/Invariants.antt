use Rattle.desk.proofs.wording.Nodes.+write_tree.Given as goal

-- an input that is followed is below its node
abbrev pub decreases-write_tree : goal.decreases-write_tree
decreases-write_tree g l = l.number
