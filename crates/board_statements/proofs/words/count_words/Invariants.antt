use Rattle.std.proofs.Common.{◌≡◌, ◌+◌, length}
use Rattle.board_text.specs.Tokens.{words_in}
use Rattle.board_statements.proofs.words.count_words.Given as goal

-- the words so far and those that are left are all
abbrev pub invariant-loop-word : goal.invariant-loop-word
invariant-loop-word l = l.count + length (words_in l.rest) ≡ length (words_in l.text)

abbrev pub decreases-loop-word : goal.decreases-loop-word
decreases-loop-word l = length (words_in l.rest)
