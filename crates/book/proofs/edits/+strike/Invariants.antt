use Rattle.book.proofs.edits.+strike.Given as goal

abbrev pub decreases-strike : goal.decreases-strike
decreases-strike g l = l.at
