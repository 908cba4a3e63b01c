use Rattle.std.proofs.Common.{◌+◌, ◌-◌, length, refl}
use Rattle.reading.proofs.Colons.{literal_read, no_value, no_kind, no_parts}
use Rattle.reading.proofs.literals.read_literal.Goals as goal

pub returns-in_err-colon : goal.returns-in_err-colon
returns-in_err-colon c =
    rw c.from_residual.ensures
    (record { is_written_so = no_parts c.args.word.line.now c.text-text.result.now c.args.word.place c.text-text.ensures.are_the_bytes_there c.in_err-colon.ensures.is_the_first })

pub returns-in_err-kind : goal.returns-in_err-kind
returns-in_err-kind c =
    rw c.from_residual-in_err-kind.ensures
    (record {
      is_written_so =
          no_kind c.args.word.line.now c.text-text.result.now c.args.word.place c.in_ok-colon.colon
          c.text-text.ensures.are_the_bytes_there c.in_ok-colon.ensures.is_the_first c.in_err-kind.ensures.reads_the_name;
    })

pub returns-in_err-value : goal.returns-in_err-value
returns-in_err-value c =
    rw c.from_residual-in_err-value.ensures
    (record {
      is_written_so =
          no_value c.args.word.line.now c.text-text.result.now c.args.word.place (record { start = c.args.word.place.start + c.in_ok-colon.colon + 1; len = length c.text-text.result.now - c.in_ok-colon.colon - 1 })
          c.in_ok-colon.colon c.in_ok-kind.kind c.storage.result
          c.text-text.ensures.are_the_bytes_there c.in_ok-colon.ensures.is_the_first c.in_ok-kind.ensures.reads_the_name
          c.storage.ensures.is_the_kinds refl refl c.in_err-value.ensures.goes_by_the_storage;
    })

pub returns : goal.returns
returns c =
    record {
      is_written_so =
          literal_read c.args.word.line.now c.text-text.result.now c.args.word.place (record { start = c.args.word.place.start + c.in_ok-colon.colon + 1; len = length c.text-text.result.now - c.in_ok-colon.colon - 1 })
          c.in_ok-colon.colon c.in_ok-kind.kind c.storage.result c.in_ok-value.value
          c.text-text.ensures.are_the_bytes_there c.in_ok-colon.ensures.is_the_first c.in_ok-kind.ensures.reads_the_name
          c.storage.ensures.is_the_kinds refl refl c.in_ok-value.ensures.goes_by_the_storage;
    }
