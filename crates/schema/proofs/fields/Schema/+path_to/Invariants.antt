use Rattle.schema.proofs.fields.Schema.+path_to.Given as goal

abbrev pub decreases-path_to : goal.decreases-path_to
decreases-path_to l = l.field
