use Rattle.board_printer.specs.headers.Headers.{byte_text}
use Rattle.board_printer.proofs.LineLemmas.{spaced-more}
use Rattle.board_printer.proofs.headers.print_bytes.Goals as goal

pub loop-byte-preserved : goal.loop-byte-preserved
loop-byte-preserved c =
    spaced-more byte_text _ _ _ c.args.bytes.now c.loop-byte.byte-index _ c.loop-byte-test.true c.loop-byte.invariant c.in_ok-print_byte.ensures
