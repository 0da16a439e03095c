-- Boards on which each operation has one and the same number of events in every run.
use Rattle.std.specs.Prelude.{◌≡◌, Bool, true, false, [], ◌&&◌, ◌==◌}
use Rattle.std.specs.List.{list_all}
use Rattle.board_model.specs.declared.agents.Target.{Target}
use Rattle.board_model.specs.declared.agents.Master.{Master}
use Rattle.board_model.specs.declared.op.Op.{Op}
use Rattle.board_model.specs.declared.op.Op.TheVariants.{Read, Write, CfgRead, CfgWrite, Poll}
use Rattle.board_model.specs.declared.board.Board.{Board}

-- it never asks for a retry, and takes a whole block of memory at a time: as with no `stall` and no `burst` line
abbrev pub is_ready : Target → Bool
is_ready target = target.stalls == 0 && target.burst == 8

-- tried once, whatever it ends with
abbrev pub is_no_poll : Op → Bool
is_no_poll (Read command address) = true
is_no_poll (Write command address phases) = true
is_no_poll (CfgRead bus device register) = true
is_no_poll (CfgWrite bus device register phase) = true
is_no_poll (Poll space address want tries) = false

-- a program without polls
abbrev pub is_straight : Master → Bool
is_straight master = list_all is_no_poll master.ops

-- a board without stalls, bursts in parts, polls, discards and drops
pub record IsSteady (board : Board) : Type 0 where
  pub targets : list_all is_ready board.targets ≡ true
  pub masters : list_all is_straight board.masters ≡ true
  pub discards : board.discards ≡ []
  pub drops : board.drops ≡ []
