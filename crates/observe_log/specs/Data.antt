-- How data words are taken from the words of a line.
use Rattle.std.specs.Prelude.{◌≡◌, ℕ, ◌+◌, ◌≤◌, List, [], ◌++◌, length, Result, Ok, Err}
use Rattle.pci_command.specs.declared.phases.Phase.{Phase}
use Rattle.text_faults.specs.declared.or_no_memory.OrNoMemory.{OrNoMemory}
use Rattle.text_faults.specs.declared.or_no_memory.OrNoMemory.TheVariants.{Fault, NoMemory}
use Rattle.observe_log.specs.declared.fault.AtWord.{AtWord}
use Rattle.observe_told.specs.declared.seen.Ending.{Ending}
use Rattle.observe_log.specs.Lines.{data_read}

-- data words were put behind those before, and counted
pub record Shows (before after : List Phase) (count : ℕ) (ending : Ending) (read : Result (List Phase × Ending) AtWord) : Type 0 where
  pub shown : List Phase
  pub is_read : read ≡ Ok (shown, ending)
  pub put : after ≡ before ++ shown
  pub counted : count ≡ length shown

-- what was told is what the words read as, unless there was no memory
abbrev pub TellsData : Result (ℕ × Ending) (OrNoMemory AtWord) → List Phase → List Phase → Result (List Phase × Ending) AtWord → Type 0
TellsData (Ok told) before after read = Shows before after told.0 told.1 read
TellsData (Err (Fault fault)) before after read = read ≡ Err fault
TellsData (Err NoMemory) before after read = Unit {0}

-- how far the data words are read: those that were shown stand behind those before, and the words that are left go on from them
pub record Going (before now : List Phase) (count : ℕ) (words all : List (List ℕ)) : Type 0 where
  pub shown : List Phase
  pub put : now ≡ before ++ shown
  pub counted : count ≡ length shown
  pub reads : data_read (5 + count) shown words ≡ data_read 5 [] all
  pub few : count + length words ≤ length all
