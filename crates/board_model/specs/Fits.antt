-- What each board of the program is: names are names, and numbers are as wide as their fields.
use Rattle.std.specs.Prelude.{◌≡◌, true, ◌^◌, ◌<◌}
use Rattle.std.specs.List.{AllByRecursion}
use Rattle.pci_command.specs.declared.phases.Phase.{Phase}
use Rattle.board_model.specs.Names.{is_name}
use Rattle.board_model.specs.declared.bridge.Bridge.{Bridge}
use Rattle.board_model.specs.declared.agents.Range.{Range}
use Rattle.board_model.specs.declared.agents.Opening.{Opening}
use Rattle.board_model.specs.declared.agents.Target.{Target}
use Rattle.board_model.specs.declared.agents.Master.{Master}
use Rattle.board_model.specs.declared.op.Want.{Want}
use Rattle.board_model.specs.declared.op.Op.{Op}
use Rattle.board_model.specs.declared.op.Op.TheVariants.{Read, Write, CfgRead, CfgWrite, Poll}
use Rattle.board_model.specs.declared.board.Planned.{Planned}
use Rattle.board_model.specs.declared.board.Board.{Board}

-- the buses of a bridge are bytes
pub record BridgeFits (bridge : Bridge) : Type 0 where
  pub bus : bridge.bus < 2 ^ 8
  pub parent : bridge.parent < 2 ^ 8
  pub last : bridge.last < 2 ^ 8

-- the line that a target begins with: a name, and a bus that is a byte
pub record TargetFits (target : Target) : Type 0 where
  pub name : is_name target.name ≡ true
  pub bus : target.bus < 2 ^ 8

-- the same of a master
pub record MasterFits (master : Master) : Type 0 where
  pub name : is_name master.name ≡ true
  pub bus : master.bus < 2 ^ 8

-- base and size of a range are of 64 bits
pub record RangeFits (range : Range) : Type 0 where
  pub base : range.base < 2 ^ 64
  pub size : range.size < 2 ^ 64

-- an address of 64 bits, and a dword
pub record OpeningFits (opening : Opening) : Type 0 where
  pub address : opening.address < 2 ^ 64
  pub value : opening.value < 2 ^ 32

-- the bus of a planned discard or drop is a byte
abbrev pub PlannedFits : Planned → Type 0
PlannedFits planned = planned.bus < 2 ^ 8

-- the data of a phase is a dword
abbrev pub PhaseFits : Phase → Type 0
PhaseFits phase = phase.value < 2 ^ 32

-- both numbers of what a poll waits for are dwords
abbrev pub WantFits : Want → Type 0
WantFits want = (want.mask < 2 ^ 32) × (want.wanted < 2 ^ 32)

-- an operation: addresses of 64 bits, dwords, and buses that are bytes
abbrev pub OpFits : Op → Type 0
OpFits (Read command address) = address < 2 ^ 64
OpFits (Write command address phases) = (address < 2 ^ 64) × AllByRecursion PhaseFits phases
OpFits (CfgRead bus device register) = bus < 2 ^ 8
OpFits (CfgWrite bus device register phase) = (bus < 2 ^ 8) × PhaseFits phase
OpFits (Poll space address want tries) = (address < 2 ^ 64) × WantFits want

-- a target with all its details
pub record DetailsFit (target : Target) : Type 0 where
  pub begins : TargetFits target
  pub vendor : target.vendor < 2 ^ 16
  pub model : target.model < 2 ^ 16
  pub ranges : AllByRecursion RangeFits target.ranges
  pub aborts : AllByRecursion RangeFits target.aborts
  pub openings : AllByRecursion OpeningFits target.openings

-- a master with its program
pub record ProgramFits (master : Master) : Type 0 where
  pub begins : MasterFits master
  pub ops : AllByRecursion OpFits master.ops

-- a board with all its parts
pub record BoardFits (board : Board) : Type 0 where
  pub bridges : AllByRecursion BridgeFits board.bridges
  pub targets : AllByRecursion DetailsFit board.targets
  pub masters : AllByRecursion ProgramFits board.masters
  pub discards : AllByRecursion PlannedFits board.discards
  pub drops : AllByRecursion PlannedFits board.drops
