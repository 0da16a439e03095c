use Rattle.std.proofs.Common.{◌≡◌, drop}
use Rattle.history_model.specs.Words.{opening_word}
use Rattle.machine_steps.proofs.words.opening_word.Given as goal

-- what the words to come make of the value is what all make of 0
abbrev pub invariant-loop-word : goal.invariant-loop-word
invariant-loop-word l = opening_word l.space l.address l.value (drop l.word-index l.openings) ≡ opening_word l.space l.address 0 l.openings
