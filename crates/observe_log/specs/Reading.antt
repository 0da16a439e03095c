-- What is kept while a log is read.
use Rattle.std.specs.Prelude.{◌≡◌, ℕ, ◌<◌, ◌++◌, ◌∷◌, [], List, Result, Ok, Err, slice_index, true, false, nat_lt}
use Rattle.text_faults.specs.declared.log_line.LogLineFault.TheVariants.{TooEarly}
use Rattle.text_faults.specs.declared.or_no_memory.OrNoMemory.{OrNoMemory}
use Rattle.text_faults.specs.declared.or_no_memory.OrNoMemory.TheVariants.{Fault, NoMemory}
use Rattle.observe_log.specs.declared.fault.AtWord.{AtWord}
use Rattle.observe_log.specs.declared.fault.LogFault.{LogFault}
use Rattle.observe_told.specs.declared.seen.Seen.{Seen}
use Rattle.observe_log.specs.Lines.{Read, last_end}

-- when the last line of each bus ended
pub record KnowsEnds (ends : List ℕ) (lines : List Seen) : Type 0 where
  pub ended : (bus : ℕ) → bus < 256 → slice_index ends bus ≡ last_end bus lines

-- one more line was read, or its fault told, unless there was no memory
abbrev pub Adds : Result (Unit {0}) (OrNoMemory AtWord) → Read → Result Read AtWord → Type 0
Adds (Ok done) after read = read ≡ Ok after
Adds (Err (Fault fault)) after read = read ≡ Err fault
Adds (Err NoMemory) after read = Unit {0}

-- the lines to come were read, or the first fault told, unless there was no memory
abbrev pub AddsAll : Result (Unit {0}) (OrNoMemory LogFault) → Read → Result Read LogFault → Type 0
AddsAll (Ok done) after read = read ≡ Ok after
AddsAll (Err (Fault fault)) after read = read ≡ Err fault
AddsAll (Err NoMemory) after read = Unit {0}

-- a line stands behind the others, or begins before the last one of its bus ended
abbrev pub TellsEnd : Result (Unit {0}) (OrNoMemory AtWord) → List Seen → List Seen → Seen → Type 0
TellsEnd (Ok done) before after seen = (nat_lt seen.start (last_end seen.bus before) ≡ false) × (after ≡ before ++ seen ∷ [])
TellsEnd (Err (Fault fault)) before after seen =
    (nat_lt seen.start (last_end seen.bus before) ≡ true) × (fault ≡ record { word = 0; fault = TooEarly })
TellsEnd (Err NoMemory) before after seen = Unit {0}
