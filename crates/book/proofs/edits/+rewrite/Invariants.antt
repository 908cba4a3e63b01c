use Rattle.book.proofs.edits.+rewrite.Given as goal

abbrev pub decreases-rewrite : goal.decreases-rewrite
decreases-rewrite g l = l.at
