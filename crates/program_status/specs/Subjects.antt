-- What each status speaks of.
use Rattle.std.specs.Prelude.{◌≡◌, ◌≢◌}
use Rattle.program_status.specs.declared.status.Status.{Status}
use Rattle.program_status.specs.declared.status.Status.TheVariants.{Done, NoMemory, Usage, ReadFault, WriteFault, TooLong, BadBoard, BadTrace, BadMachine, TooManyEvents, NotRun, Incomplete, NotSafe, NotShown, DrawnTo, BadLog, NotTold, TooMuch, ToldTo}

-- of a text that is whole in the sink, of memory, of the words, of a failing source or sink, of the length of the input, or of
-- what the input says
pub data Subject : Type 0 where
  Success : Subject
  Memory : Subject
  Words : Subject
  Reading : Subject
  Writing : Subject
  Length : Subject
  Input : Subject

-- what a status speaks of
abbrev pub subject_of : Status → Subject
subject_of Done = Success
subject_of NoMemory = Memory
subject_of (Usage word) = Words
subject_of ReadFault = Reading
subject_of WriteFault = Writing
subject_of TooLong = Length
subject_of (BadBoard line fault) = Input
subject_of (BadTrace line fault) = Input
subject_of (BadMachine line fault) = Input
subject_of (TooManyEvents events) = Input
subject_of (NotRun event why) = Input
subject_of (Incomplete left) = Input
subject_of (NotSafe counts) = Success
subject_of NotShown = Input
subject_of (DrawnTo event why) = Success
subject_of (BadLog line fault) = Input
subject_of (NotTold line refusal) = Input
subject_of (TooMuch line excess) = Input
subject_of (ToldTo line why) = Success

-- the words are of no form
abbrev pub IsUsage : Status → Type 0
IsUsage status = subject_of status ≡ Words

-- the input is refused for what it says
abbrev pub IsRefusal : Status → Type 0
IsRefusal status = subject_of status ≡ Input

-- the text that answers is whole in the sink
abbrev pub IsSuccess : Status → Type 0
IsSuccess status = subject_of status ≡ Success

-- nothing was written
abbrev pub IsBeforeWriting : Status → Type 0
IsBeforeWriting status = (subject_of status ≢ Success) × (subject_of status ≢ Writing)

-- an answer to an input that is served: it is not the words nor the input that it finds wrong
abbrev pub Serves : Status → Type 0
Serves status = (subject_of status ≢ Words) × (subject_of status ≢ Length) × (subject_of status ≢ Input)
