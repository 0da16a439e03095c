-- When a master is added to a board, and an operation to the master that began last.
use Rattle.std.specs.Prelude.{ℕ, Bool, true, false, ◌+◌, ◌*◌, ◌%◌, List, [], ◌∷◌, ◌++◌, length, Result, Ok, Err, not, ◌||◌, ◌==◌, nat_lt, nat_le, if◌then◌else◌}
use Rattle.board_model.specs.Limits.{most_ops, most_tries}
use Rattle.board_model.specs.declared.op.Op.{Op}
use Rattle.board_model.specs.declared.op.Op.TheVariants.{Read, Write, CfgRead, CfgWrite, Poll}
use Rattle.board_model.specs.declared.agents.Master.{Master}
use Rattle.board_model.specs.declared.board.Board.{Board}
use Rattle.board_model.specs.Requests.{tries_of}
use Rattle.board_model.specs.WellFormed.{operations_in}
use Rattle.text_faults.specs.declared.board_line.LineFault.{LineFault}
use Rattle.text_faults.specs.declared.board_line.LineFault.TheVariants.{NoOwner, Unaligned, PastItsBlock, OverLimit}
use Rattle.board_parser.specs.declared.draft.draft.Draft.{Draft}
use Rattle.board_parser.specs.declared.draft.draft.AgentPlace.{AgentPlace}
use Rattle.board_parser.specs.declared.draft.draft.AgentPlace.TheVariants.{Nobody, OfTarget, OfMaster}
use Rattle.board_parser.specs.draft.Steps.{◌>>=◌}
use Rattle.board_parser.specs.draft.Drafts.{board_of}
use Rattle.board_parser.specs.draft.Targets.{agent_fault, unless}

-- a `master` line
abbrev pub add_master : Bool → Board → List ℕ → ℕ → Result Draft LineFault
add_master wide board name bus =
    unless (agent_fault board name bus) (record { wide = wide; board = board; owner = OfMaster (record { name = name; bus = bus; ops = [] }) })

-- an operation stands behind its master
abbrev pub master_in : AgentPlace → Result Master LineFault
master_in Nobody = Err NoOwner
master_in (OfTarget target) = Err NoOwner
master_in (OfMaster master) = Ok master

-- the draft with that master changed, or the fault
abbrev pub on_master : Draft → (Master → Result Master LineFault) → Result Draft LineFault
on_master draft change = do
  master ← master_in draft.owner
  changed ← change master
  Ok (record draft { owner = OfMaster changed })

-- the address is a multiple of 4; a configuration access has a register and no address
abbrev pub is_aligned : Op → Bool
is_aligned (Read command address) = address % 4 == 0
is_aligned (Write command address phases) = address % 4 == 0
is_aligned (CfgRead bus device register) = true
is_aligned (CfgWrite bus device register phase) = true
is_aligned (Poll space address want tries) = address % 4 == 0

-- the dwords of a write go past the aligned block of 64 bytes in which it begins
abbrev pub passes_block : Op → Bool
passes_block (Read command address) = false
passes_block (Write command address phases) = nat_lt 64 (address % 64 + 4 * length phases)
passes_block (CfgRead bus device register) = false
passes_block (CfgWrite bus device register phase) = false
passes_block (Poll space address want tries) = false

-- an operation behind so many in all, each poll counted by its tries: at most 1,024 of one master, and 65,536 in all
abbrev pub add_op : ℕ → Op → Bool → Master → Result Master LineFault
add_op before op too_many master =
    if not (is_aligned op) then Err Unaligned
    else if too_many || passes_block op then Err PastItsBlock
    else if nat_le most_ops (length master.ops) || nat_lt most_tries (before + tries_of op) then Err OverLimit
    else Ok (record master { ops = master.ops ++ op ∷ [] })

-- a line with an operation
abbrev pub does : Draft → Op → Bool → Result Draft LineFault
does draft op too_many = on_master draft (add_op (operations_in (board_of draft).masters) op too_many)
