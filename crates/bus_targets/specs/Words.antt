-- The words of one space of a target: each has a place, by rising address, and there is what it holds.
use Rattle.std.specs.Prelude.{ℕ, ◌+◌, List, [], ◌∷◌, Option, Some, None, ◌==◌, slice_get}
use Rattle.std.specs.List.{position_from}
use Rattle.list_facts.specs.Lists.{changed_at}
use Rattle.pci_command.specs.declared.command.Space.{Space}
use Rattle.pci_command.specs.declared.phases.Phase.{Phase}
use Rattle.board_model.specs.device.Registers.{merge_of}
use Rattle.history_model.specs.Words.{mask_in}
use Rattle.machine_steps.specs.Counts.{or_zero}

-- the addresses of the words, and what each holds, in the same order
pub record WordsOfSpace : Type 0 where
  pub addresses : List ℕ
  pub values : List ℕ

-- the place of the word at the address, where it is kept
abbrev pub place_in : List ℕ → ℕ → Option ℕ
place_in addresses address = position_from (λ kept. kept == address) 0 addresses

-- what the word at the place holds; 0 where there is none
abbrev pub value_in : List ℕ → Option ℕ → ℕ
value_in values None = 0
value_in values (Some place) = or_zero (slice_get values place)

-- what the word at the address holds
abbrev pub value_at : WordsOfSpace → ℕ → ℕ
value_at words address = value_in words.values (place_in words.addresses address)

-- the values after a data phase landed at an address of the space
abbrev pub merged_at : Space → List ℕ → ℕ → Phase → List ℕ → List ℕ
merged_at space addresses address phase values = changed_at (λ value. merge_of value phase (mask_in space address)) values (place_in addresses address)

-- and after data phases from an address on, four bytes apart
abbrev pub landed_at : Space → List ℕ → ℕ → List Phase → List ℕ → List ℕ
landed_at space addresses at [] values = values
landed_at space addresses at (phase ∷ phases) values = landed_at space addresses (at + 4) phases (merged_at space addresses at phase values)
