use Rattle.board_headers.proofs.RegisterLemmas.{windows_back, refused_back}
use Rattle.board_headers.proofs.round_trip.encoding_is_read_back.Goals as goal

pub returns-clause-windows : goal.returns-clause-windows
returns-clause-windows c = windows_back

pub returns-clause-reading : goal.returns-clause-reading
returns-clause-reading c bridge whole ordered = rw (refused_back bridge.mode, windows_back bridge whole, ordered)
