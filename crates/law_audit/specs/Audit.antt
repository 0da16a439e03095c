-- The lines of an audit: what every read of a run knew of the word that it read.
use Rattle.std.specs.Prelude.{ℕ, Bool, List, [], ◌∷◌, ◌++◌, reverse, Option, Some, None}
use Rattle.std.specs.List.{find}
use Rattle.pci_command.specs.declared.op_id.OpId.{OpId}
use Rattle.pci_command.specs.declared.op_id.Outcome.{Outcome}
use Rattle.pci_command.specs.declared.op_id.Outcome.TheVariants.{Value, Written, Aborted, Nobody}
use Rattle.board_model.specs.declared.board.Board.{Board}
use Rattle.board_model.specs.Ways.{Dword}
use Rattle.history_model.specs.declared.event.Event.{Event}
use Rattle.history_model.specs.Program.{Ending, ended}
use Rattle.history_model.specs.Words.{Landing, landed}
use Rattle.history_model.specs.Knowledge.{Reading, got}
use Rattle.law_fresh.specs.Aware.{knows, aware_of}
use Rattle.law_audit.specs.Chains.{op_in, chain_from}

-- a read, what it read, and the last landed write of the word that its master knew of before
pub record Finding : Type 0 where
  pub read : OpId
  pub word : Dword
  pub value : ℕ
  pub write : OpId
  pub chain : List OpId

-- the write of a landing was told to an earlier operation of the read's master, or is one
abbrev pub is_known_by : Board → List Event → OpId → Landing → Bool
is_known_by board h r landing = knows (aware_of board landing.op h) r

-- of what landed in the word before the read, the last that it knew of
abbrev pub last_known : Board → List Event → OpId → Reading → Option OpId
last_known board h r reading = op_in (find (is_known_by board h r) (reverse (landed board reading.before reading.word)))

-- the finding of a read, where it knew of such a write
abbrev pub finding_of : Board → List Event → OpId → Reading → Option OpId → List Finding
finding_of board h r reading None = []
finding_of board h r reading (Some w) =
    record {
      read = r;
      word = reading.word;
      value = reading.value;
      write = w;
      chain = chain_from board w h r ((aware_of board w h).since r.master);
    } ∷ []

-- of a read that ended with a value, where it read that at a target
abbrev pub findings_by : Board → List Event → OpId → Option Reading → List Finding
findings_by board h r None = []
findings_by board h r (Some reading) = finding_of board h r reading (last_known board h r reading)

-- of an operation that ended, where it ended with a value
abbrev pub findings_as : Board → List Event → OpId → Outcome → List Finding
findings_as board h r (Value value) = findings_by board h r (got board h r)
findings_as board h r Written = []
findings_as board h r Aborted = []
findings_as board h r Nobody = []

-- of an event, where it ends an operation at its master
abbrev pub findings_in : Board → List Event → Option Ending → List Finding
findings_in board h None = []
findings_in board h (Some ending) = findings_as board h ending.op ending.outcome

-- one for each read that ended with what it read at a target and knew of such a write, in the order of the ends
abbrev pub findings : Board → List Event → List Finding
findings board [] = []
findings board (e ∷ h) = findings board h ++ findings_in board (e ∷ h) (ended e)
