use Rattle.book.proofs.edits.+flip.Given as goal

abbrev pub decreases-flip : goal.decreases-flip
decreases-flip g l = l.at
