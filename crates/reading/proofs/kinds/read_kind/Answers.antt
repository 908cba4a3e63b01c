use Rattle.std.proofs.Common.{refl}
use Rattle.reading.proofs.Named.{other_name}
use Rattle.reading.proofs.kinds.read_kind.Goals as goal

pub returns-then-spells-7 : goal.returns-then-spells-7
returns-then-spells-7 c = record { reads_the_name = (tt, c.if-spells-7.ensures.tells_equal_bytes.0 refl) }

pub returns-then-spells-8 : goal.returns-then-spells-8
returns-then-spells-8 c = record { reads_the_name = (tt, c.if-spells-8.ensures.tells_equal_bytes.0 refl) }

pub returns-then-spells-9 : goal.returns-then-spells-9
returns-then-spells-9 c = record { reads_the_name = (tt, c.if-spells-9.ensures.tells_equal_bytes.0 refl) }

pub returns-else-spells-13 : goal.returns-else-spells-13
returns-else-spells-13 c =
    record {
      reads_the_name =
          other_name c.args.text.now c.fixed.result
          c.if-spells.ensures.tells_equal_bytes c.if-spells-2.ensures.tells_equal_bytes c.if-spells-3.ensures.tells_equal_bytes
          c.if-spells-4.ensures.tells_equal_bytes c.if-spells-5.ensures.tells_equal_bytes c.if-spells-6.ensures.tells_equal_bytes
          c.if-spells-7.ensures.tells_equal_bytes c.if-spells-8.ensures.tells_equal_bytes c.if-spells-9.ensures.tells_equal_bytes
          c.if-spells-10.ensures.tells_equal_bytes c.if-spells-11.ensures.tells_equal_bytes c.if-spells-12.ensures.tells_equal_bytes
          c.if-spells-13.ensures.tells_equal_bytes
          c.fixed.ensures.reads_the_length;
    }
