use Rattle.board_parser.proofs.ReadingLemmas.{read-formed}
use Rattle.board_parser.proofs.laws.read_is_well_formed.Goals as goal

pub returns : goal.returns
returns c = read-formed
