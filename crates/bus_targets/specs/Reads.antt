-- Which dwords of a target operations read.
use Rattle.std.specs.Prelude.{◌≡◌, ℕ, Bool, true, ◌&&◌, ◌==◌, List}
use Rattle.std.specs.List.{list_any, AllByRecursion, Contains}
use Rattle.pci_command.specs.declared.command.Space.{Space}
use Rattle.pci_command.specs.declared.command.Space.TheVariants.{Mem, Io, Cfg}
use Rattle.pci_command.specs.Command.{space_of, is_read}
use Rattle.board_model.specs.declared.agents.Target.{Target as TargetAgent}
use Rattle.board_model.specs.declared.agents.Master.{Master}
use Rattle.board_model.specs.declared.op.Op.{Op}
use Rattle.board_model.specs.Requests.{command_of, address_on}
use Rattle.board_model.specs.Claims.{range_holds, is_type_0, device_in}
use Rattle.board_model.specs.Ways.{address_in}

-- the target answers at the address of the space on its bus, if no target before it does
abbrev pub answers_at : TargetAgent → Space → ℕ → Bool
answers_at target Mem address = list_any (range_holds Mem address) target.ranges
answers_at target Io address = list_any (range_holds Io address) target.ranges
answers_at target Cfg address = is_type_0 address && target.device == device_in address

-- the dword that the operation reads of the target is among these of the space, if it reads one there
abbrev pub KnowsRead : TargetAgent → Space → List ℕ → Op → Type 0
KnowsRead target space addresses op =
    is_read (command_of op) ≡ true → space_of (command_of op) ≡ space → answers_at target space (address_on op target.bus) ≡ true
    → Contains addresses (address_in space (address_on op target.bus))

-- so is each that the operations of a master's program read
abbrev pub KnowsProgram : TargetAgent → Space → List ℕ → Master → Type 0
KnowsProgram target space addresses master = AllByRecursion (KnowsRead target space addresses) master.ops

-- each address that was among them is
abbrev pub StillThere : List ℕ → List ℕ → Type 0
StillThere old new = (address : ℕ) → Contains old address → Contains new address
