-- The least that is asked of a tree of buses here: PCI-to-PCI Bridge Architecture Specification 1.1, chapter 3 (from memory)
-- (the primary, secondary and subordinate bus numbers).
use Rattle.std.specs.Prelude.{◌≡◌, ◌<◌, true}
use Rattle.std.specs.List.{AllByRecursion}
use Rattle.board_model.specs.declared.bridge.Bridge.{Bridge}
use Rattle.board_model.specs.declared.board.Board.{Board}
use Rattle.board_model.specs.WellFormed.{are_numbered_apart}

-- bus numbers fall towards the root
pub record IsTree (board : Board) : Type 0 where
  -- no two bridges have one secondary bus
  pub apart : are_numbered_apart board.bridges ≡ true
  -- the primary bus of each bridge has a lower number than its secondary bus
  pub falls : AllByRecursion (λ (bridge : Bridge). bridge.parent < bridge.bus) board.bridges
