use Rattle.book.proofs.Called.{does}
use Rattle.book.proofs.book.Book.rewrite_not.Goals as goal

pub returns : goal.returns
returns g c = record { does_what_is_asked = does _ _ _ _ _ c.rewrite.ensures.rewrites_in_place c.rewrite.ensures.reads_the_same_text }
