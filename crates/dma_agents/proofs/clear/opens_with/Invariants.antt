use Rattle.std.proofs.Common.{◌≡◌, drop}
use Rattle.pci_command.specs.declared.command.Space.TheVariants.{Mem}
use Rattle.history_model.specs.Words.{opening_word}
use Rattle.dma_agents.proofs.clear.opens_with.Given as goal

-- what the words to come make of the value is what all make of 0
abbrev pub invariant-loop-word : goal.invariant-loop-word
invariant-loop-word l = opening_word Mem l.address l.value (drop l.word-index l.openings) ≡ opening_word Mem l.address 0 l.openings
