use Rattle.desk.proofs.wording.Nodes.+write_filter.Given as goal

-- an input that is followed is below its node
abbrev pub decreases-write_filter : goal.decreases-write_filter
decreases-write_filter g l = l.number
