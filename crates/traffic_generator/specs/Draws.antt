-- The generator of draws: a linear congruential generator modulo 2^32, of whose state each draw gives the upper half.
use Rattle.std.specs.Prelude.{ℕ, ◌+◌, ◌*◌, ◌/◌, ◌%◌, ◌^◌, zero, suc, List, [], ◌∷◌}
use Rattle.pci_command.specs.declared.phases.Phase.{Phase}

-- the state behind a draw
abbrev pub drawn : ℕ → ℕ
drawn state = (state * 1103515245 + 12345) % 2 ^ 32

-- what the draw gives
abbrev pub draw : ℕ → ℕ
draw state = drawn state / 2 ^ 16

-- a word is two draws, its high half first
abbrev pub word : ℕ → ℕ
word state = draw state * 2 ^ 16 + draw (drawn state)

-- so many words, with all bytes enabled
abbrev pub words : ℕ → ℕ → List Phase
words zero state = []
words (suc count) state = record { value = word state; enables = 15 } ∷ words count (drawn (drawn state))

-- the state behind so many words
abbrev pub words_drawn : ℕ → ℕ → ℕ
words_drawn zero state = state
words_drawn (suc count) state = words_drawn count (drawn (drawn state))
