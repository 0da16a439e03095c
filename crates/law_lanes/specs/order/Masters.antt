-- Whose posted writes are on the lanes: PCI Local Bus Specification 2.2, section 3.2.5 (from memory; a posted write is
-- complete for its master when the bridge took it).
use Rattle.std.specs.Prelude.{◌≡◌, Bool, true, false, List, ◌&&◌}
use Rattle.std.specs.List.{list_any}
use Rattle.pci_command.specs.declared.op_id.OpId.{OpId}
use Rattle.pci_command.specs.Same.{same_op}
use Rattle.board_model.specs.declared.board.Board.{Board}
use Rattle.history_model.specs.declared.event.By.{By}
use Rattle.history_model.specs.declared.event.By.TheVariants.{Master, Lane as ByLane}
use Rattle.history_model.specs.declared.event.Step.{Step}
use Rattle.history_model.specs.declared.event.Step.TheVariants.{Land, Part, Read, Accept, Latch, Take, Stall, MasterAbort, TargetAbort}
use Rattle.history_model.specs.declared.event.Event.{Event}
use Rattle.history_model.specs.declared.event.Event.TheVariants.{Act, Arrive}
use Rattle.law_lanes.specs.order.Order.{is_posted_op}

-- the step by which a bridge takes a posted write
abbrev pub is_accept : Step → Bool
is_accept Land = false
is_accept (Part phases) = false
is_accept (Read value) = false
is_accept Accept = true
is_accept Latch = false
is_accept (Take outcome) = false
is_accept Stall = false
is_accept MasterAbort = false
is_accept TargetAbort = false

-- the initiator is a master, and no bridge
abbrev pub is_master : By → Bool
is_master Master = true
is_master (ByLane lane) = false

-- a bridge takes the operation from its master
abbrev pub accepts_from_master : OpId → Event → Bool
accepts_from_master o (Act on by op step place) = is_master by && is_accept step && same_op op o
accepts_from_master o (Arrive lane mark) = false

-- a write in memory that its master ended as a bridge accepted it
pub record MastersWrite (board : Board) (h : List Event) (o : OpId) : Type 0 where
  pub is_write : is_posted_op board o ≡ true
  pub is_accepted : list_any (accepts_from_master o) h ≡ true
