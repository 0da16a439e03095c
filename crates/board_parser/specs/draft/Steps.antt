-- Steps that may end with a fault of the line, one after the other.
use Rattle.std.specs.Prelude.{◌≡◌, Result, Ok, Err}
use Rattle.text_faults.specs.declared.board_line.LineFault.{LineFault}
use Rattle.text_faults.specs.declared.or_no_memory.OrNoMemory.{OrNoMemory}
use Rattle.text_faults.specs.declared.or_no_memory.OrNoMemory.TheVariants.{Fault, NoMemory}

-- the next step, unless this one ended with a fault
infixl 10 ◌>>=◌
-- what this one answered goes on to the next
abbrev pub ◌>>=◌ : {A B : Type 0} → Result A LineFault → (A → Result B LineFault) → Result B LineFault
(Ok x) >>= next = next x
(Err fault) >>= next = Err fault

-- an answer is exactly what is to be answered, unless there was no memory
abbrev pub Answers : {A : Type 0} → Result A (OrNoMemory LineFault) → Result A LineFault → Type 0
Answers (Ok x) expected = expected ≡ Ok x
Answers (Err (Fault fault)) expected = expected ≡ Err fault
Answers (Err NoMemory) expected = Unit {0}

-- what was changed is then exactly what is to be answered, unless there was no memory
abbrev pub Changes : {U A : Type 0} → Result U (OrNoMemory LineFault) → A → Result A LineFault → Type 0
Changes (Ok done) changed expected = expected ≡ Ok changed
Changes (Err (Fault fault)) changed expected = expected ≡ Err fault
Changes (Err NoMemory) changed expected = Unit {0}
