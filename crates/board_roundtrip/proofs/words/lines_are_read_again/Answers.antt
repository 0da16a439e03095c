use Rattle.board_roundtrip.proofs.words.WordLemmas.{lines_again, words_again, joined_allowed}
use Rattle.board_roundtrip.proofs.words.lines_are_read_again.Goals as goal

pub returns-clause-lines : goal.returns-clause-lines
returns-clause-lines c = lines_again

pub returns-clause-words : goal.returns-clause-words
returns-clause-words c = words_again

pub returns-clause-allowed : goal.returns-clause-allowed
returns-clause-allowed c = joined_allowed
