-- What is asked of a board here, which a valid board meets.
use Rattle.std.proofs.Common.{◌≡◌, ℕ, ◌≤◌, true, Some}
use Rattle.std.specs.List.{AllByRecursion}
use Rattle.list_facts.proofs.EachLemmas.{Each-weaker, Each-find}
use Rattle.list_facts.proofs.TestLemmas.{Each-list_all}
use Rattle.board_model.specs.declared.bridge.Bridge.{Bridge}
use Rattle.board_model.specs.declared.board.Board.{Board}
use Rattle.board_model.specs.WellFormed.{has_bus, is_well_formed_bridge, is_well_formed}
use Rattle.board_model.specs.Valid.{IsValid}
use Rattle.board_model.specs.form_laws.Trees.{IsTree}
use Rattle.board_model.proofs.form_laws.Laws.{IsTree-valid}
use Rattle.history_model.specs.Answers.{bridge_to}
use Rattle.law_lanes.specs.Depths.{DifferentNumbers}
use Rattle.law_lanes.specs.Phases.{DelayedAreSingle}
use Rattle.law_lanes.proofs.Laws.{WellFormed-numbers, WellFormed-single}
use Rattle.law_lanes.specs.order.OnWay.{WritesHaveOneClaimant}
use Rattle.law_lanes.proofs.order.Laws.{OneClaimant-formed}
use Rattle.board_model.proofs.Laws.{WellFormed-parts, Bridge-parts}

-- a bridge keeps at least one posted write and one delayed request
abbrev pub HasRoom : Bridge → Type 0
HasRoom bridge = (1 ≤ bridge.posted) × (1 ≤ bridge.delayed)

-- a tree of bridges with different numbers and with room, whose writes have one claimant, and whose delayed requests
-- have one data phase
pub record Sound (board : Board) : Type 0 where
  pub tree : IsTree board
  pub distinct : DifferentNumbers board
  pub single : DelayedAreSingle board
  pub one : WritesHaveOneClaimant board
  pub room : AllByRecursion HasRoom board.bridges

-- the bridge that is found has room
pub room_at : (board : Board) (bus : ℕ) (bridge : Bridge) → Sound board → bridge_to board bus ≡ Some bridge → HasRoom bridge
room_at board bus bridge sound is = Each-find HasRoom (has_bus bus) board.bridges bridge sound.room is

-- a well-formed bridge has room
bridge_room : (bridge : Bridge) → is_well_formed_bridge bridge ≡ true → HasRoom bridge
bridge_room bridge well = let form = Bridge-parts bridge well in (form.posted.from, form.delayed.from)

-- a valid board meets all of it
pub Sound-valid : (board : Board) → IsValid board → Sound board
Sound-valid board valid =
    let well : is_well_formed board ≡ true = valid.well_formed in
    record {
      tree = IsTree-valid board valid;
      distinct = WellFormed-numbers board well;
      single = WellFormed-single board well;
      one = OneClaimant-formed board well;
      room = Each-weaker (λ bridge. is_well_formed_bridge bridge ≡ true) HasRoom bridge_room board.bridges
          (Each-list_all is_well_formed_bridge board.bridges (WellFormed-parts board well).bridges);
    }
