use Rattle.std.proofs.Common.{false, ap, ◌∙◌, rules, tests}
use Rattle.std.proofs.lemmas.Iterator.{YieldsList-from_slice}
use Rattle.std.proofs.lemmas.Iterator.Consumers.{fold_from_yields_List}
use Rattle.reading.specs.Words.{turned, left_open}
use Rattle.reading.proofs.Found.{quote_carried}
use Rattle.reading.proofs.words.Word.is_left_open.Goals as goal

pub returns : goal.returns
returns c =
    let bytes = YieldsList-from_slice c.text.result.now (cc) in
    record {
      counts_by_twos = fold_from_yields_List _ (λ quoted byte. turned byte quoted) false c.fold.result c.fold.ensures.ran bytes (λ a x b q k. search (rules, tests))
          ∙ quote_carried false c.text.result.now
          ∙ ap (left_open false) c.text.ensures.are_the_bytes_there;
    }
