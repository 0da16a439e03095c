use Rattle.board_roundtrip.proofs.lines.WordTexts.{words_are_read}
use Rattle.board_roundtrip.proofs.lines.words_are_read.Goals as goal

pub returns : goal.returns
returns c = words_are_read
