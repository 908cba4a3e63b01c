use Rattle.std.proofs.Common.{◌≡◌, ◌++◌, Some, codes, refl}
use Rattle.std.proofs.lemmas.Slice.Eq.{strip_prefix_is, strip_suffix_is}
use Rattle.reading.proofs.Named.{fixed_length}
use Rattle.reading.proofs.kinds.fixed.Goals as goal
use Rattle.std.proofs.lemmas.Bool.Decides.{Decides-eqb}

pub returns : goal.returns
returns c =
    let text = c.args.text.now in
    let rest = c.in_ok-strip_prefix.field-0 in
    let digits = c.in_ok-digits.digits in
    let e : text ≡ codes "fixed(" ++ rest.now = strip_prefix_is Decides-eqb text (codes "fixed(") (Some rest) c.in_ok-strip_prefix.ensures.cases in
    let f : rest.now ≡ digits.now ++ codes ")" = strip_suffix_is Decides-eqb rest.now (codes ")") (Some digits) c.in_ok-digits.ensures.cases in
    record { reads_the_length = (c.in_ok-read.field-0, (refl, fixed_length text rest.now digits.now c.in_ok-read.field-0 e f c.in_ok-read.ensures.reads_as_printed)) }
