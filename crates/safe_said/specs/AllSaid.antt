-- What is said of all operations of a board.
use Rattle.std.specs.Prelude.{List, [], ◌∷◌, ◌++◌, Option, Some, None}
use Rattle.pci_command.specs.declared.op_id.OpId.{OpId}
use Rattle.board_model.specs.declared.board.Board.{Board}
use Rattle.safe_model.specs.Ops.{ops_by}
use Rattle.safe_model.specs.Clocks.{Table}
use Rattle.safe_model.specs.said.Said.{Said as Verdict, safe, unsafe, lost, nowhere, vain, loose, said_of}
use Rattle.audit_clocks.specs.Tables.{dword}
use Rattle.safe_said.specs.declared.verdict.Said.{Said}
use Rattle.safe_said.specs.declared.verdict.Said.TheVariants.{Safe, Unsafe, Lost, Nowhere, Vain, Loose}
use Rattle.safe_said.specs.declared.verdict.OpSaid.{OpSaid}

-- what is said, as the laws have it
abbrev pub verdict : Said → Verdict
verdict (Safe word value) = safe (dword word) value
verdict (Unsafe word beside) = unsafe (dword word) beside
verdict (Lost aborted) = lost aborted
verdict (Nowhere aborted) = nowhere aborted
verdict Vain = vain
verdict Loose = loose

-- an operation, and what is said of it
pub record Line : Type 0 where
  pub op : OpId
  pub said : Verdict

-- the same, as the laws have it
abbrev pub line : OpSaid → Line
line one = record { op = one.op; said = verdict one.said }

-- a line of an operation of which something is said, and none of any other
abbrev pub lines_of : OpId → Option Verdict → List Line
lines_of o None = []
lines_of o (Some said) = record { op = o; said = said } ∷ []

-- the lines of these operations
abbrev pub said_among : Board → Table → List OpId → List Line
said_among board table [] = []
said_among board table (o ∷ ops) = lines_of o (said_of board table o) ++ said_among board table ops

-- of all operations of a board, in the order of master and index
abbrev pub all_said : Board → Table → List Line
all_said board table = said_among board table (ops_by 0 board.masters)
