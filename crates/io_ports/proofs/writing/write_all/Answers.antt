use Rattle.std.proofs.Common.{◌∙◌}
use Rattle.io_ports.proofs.AppendLemmas.{Appends-take}
use Rattle.io_ports.proofs.writing.write_all.Goals as goal

-- what was written so far, and the next piece
pub pieces-preserved : goal.pieces-preserved
pieces-preserved g c = record {
  within = c.in_ok-written.ensures.piece.within;
  written = Appends-take _ _ _ _ _ _ c.pieces.invariant.written c.in_ok-written.ensures.piece.written;
  clean = c.in_ok-written.ensures.clean ∙ c.pieces.invariant.clean;
}
