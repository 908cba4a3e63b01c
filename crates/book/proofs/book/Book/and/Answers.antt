use Rattle.book.proofs.Called.{does}
use Rattle.book.proofs.book.Book.and.Goals as goal

pub returns : goal.returns
returns g c = record { does_what_is_asked = does _ _ _ _ _ c.join.ensures.joins_or_folds c.join.ensures.reads_the_same_text }
