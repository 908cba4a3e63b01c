use Rattle.std.proofs.Common.{◌≡◌, ◌+◌, Bool, length, get_or, drop, sym, ap, arith}
use Rattle.reading.specs.Words.{front, turned}
use Rattle.reading.proofs.Found.{front_more, front_end}
use Rattle.reading.proofs.words.word_len.Goals as goal

pub loop-i-preserved : goal.loop-i-preserved
loop-i-preserved c =
    let text = c.args.text.now in
    let i = c.loop-i.i in
    let more = front_more text i c.loop-i.quoted (omega arith) (sym c.if-ends_word.ensures.is_a_blank_outside_quotes) in
    let rest : length (front c.turn-quoted.result (drop (i + 1) text)) ≡ length (front (turned (get_or text i 0) c.loop-i.quoted) (drop (i + 1) text)) =
    ap (λ (q : Bool). length (front q (drop (i + 1) text))) c.turn-quoted.ensures.opens_or_closes in
    omega (arith, c.loop-i.invariant)

pub returns-then-ends_word : goal.returns-then-ends_word
returns-then-ends_word c =
    record { takes_the_word = omega (arith, c.loop-i.invariant, front_end c.args.text.now c.loop-i.i c.loop-i.quoted (omega arith) (sym c.if-ends_word.ensures.is_a_blank_outside_quotes)) }
