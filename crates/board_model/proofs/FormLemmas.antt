-- What is well formed, by name: from each test the record beside it, and back.
use Rattle.std.proofs.Common.{◌≡◌, ℕ, true, List, Some}
use Rattle.std.proofs.lemmas.Bool.{and_parts, and_from, leb-true, le-leb, ltb-true, lt-ltb}
use Rattle.pci_command.specs.declared.command.Space.{Space}
use Rattle.pci_command.specs.declared.phases.Phase.{Phase}
use Rattle.board_model.specs.declared.agents.Range.{Range}
use Rattle.board_model.specs.declared.agents.Target.{Target}
use Rattle.board_model.specs.declared.agents.Master.{Master}
use Rattle.board_model.specs.declared.bridge.Window.{Window}
use Rattle.board_model.specs.declared.bridge.Bridge.{Bridge}
use Rattle.board_model.specs.declared.board.Board.{Board}
use Rattle.board_model.specs.WellFormed.{is_within, IsWithin, is_window, IsWindow, is_well_formed_bridge, IsWellFormedBridge, is_block, IsBlock, is_well_formed_target, IsWellFormedTarget, is_well_formed_write, IsWellFormedWrite, is_well_formed_master, IsWellFormedMaster, are_few, AreFew, is_well_formed, IsWellFormed}

-- a number in its range
pub Within-parts : (least most n : ℕ) → is_within least most n ≡ true → IsWithin least most n
Within-parts least most n within =
    let parts = and_parts _ _ within in
    record { from = leb-true _ _ parts.0; to = leb-true _ _ parts.1 }

pub Within-from : (least most n : ℕ) → IsWithin least most n → is_within least most n ≡ true
Within-from least most n is = and_from _ _ (le-leb _ _ is.from) (le-leb _ _ is.to)

-- a window of a bridge
pub Window-parts : (unit end : ℕ) (window : Window) → is_window unit end (Some window) ≡ true → IsWindow unit end window
Window-parts unit end window formed =
    let ends = and_parts _ _ formed in
    let limit = and_parts _ _ ends.0 in
    let base = and_parts _ _ limit.0 in
    record { ordered = leb-true _ _ base.0; base = base.1; limit = limit.1; ends = ltb-true _ _ ends.1 }

pub Window-from : (unit end : ℕ) (window : Window) → IsWindow unit end window → is_window unit end (Some window) ≡ true
Window-from unit end window is = and_from _ _ (and_from _ _ (and_from _ _ (le-leb _ _ is.ordered) is.base) is.limit) (lt-ltb _ _ is.ends)

-- a bridge
pub Bridge-parts : (bridge : Bridge) → is_well_formed_bridge bridge ≡ true → IsWellFormedBridge bridge
Bridge-parts bridge formed =
    let io = and_parts _ _ formed in
    let pref = and_parts _ _ io.0 in
    let mem = and_parts _ _ pref.0 in
    let delayed = and_parts _ _ mem.0 in
    let posted = and_parts _ _ delayed.0 in
    let device = and_parts _ _ posted.0 in
    record {
      bus = leb-true _ _ device.0;
      device = leb-true _ _ device.1;
      posted = Within-parts _ _ _ posted.1;
      delayed = Within-parts _ _ _ delayed.1;
      mem = mem.1;
      pref = pref.1;
      io = io.1;
    }

pub Bridge-from : (bridge : Bridge) → IsWellFormedBridge bridge → is_well_formed_bridge bridge ≡ true
Bridge-from bridge is =
    let numbers = and_from _ _ (and_from _ _ (and_from _ _ (le-leb _ _ is.bus) (le-leb _ _ is.device)) (Within-from _ _ _ is.posted)) (Within-from _ _ _ is.delayed) in
    and_from _ _ (and_from _ _ (and_from _ _ numbers is.mem) is.pref) is.io

-- a range of a target
pub Block-parts : (unit end : ℕ) (range : Range) → is_block unit end range ≡ true → IsBlock unit end range
Block-parts unit end range formed =
    let ends = and_parts _ _ formed in
    let not_all = and_parts _ _ ends.0 in
    let some = and_parts _ _ not_all.0 in
    let size = and_parts _ _ some.0 in
    record { base = size.0; size = size.1; some = ltb-true _ _ some.1; not_all = ltb-true _ _ not_all.1; ends = leb-true _ _ ends.1 }

pub Block-from : (unit end : ℕ) (range : Range) → IsBlock unit end range → is_block unit end range ≡ true
Block-from unit end range is =
    and_from _ _ (and_from _ _ (and_from _ _ (and_from _ _ is.base is.size) (lt-ltb _ _ is.some)) (lt-ltb _ _ is.not_all)) (le-leb _ _ is.ends)

-- a target
pub Target-parts : (target : Target) → is_well_formed_target target ≡ true → IsWellFormedTarget target
Target-parts target formed =
    let few_openings = and_parts _ _ formed in
    let openings = and_parts _ _ few_openings.0 in
    let few_aborts = and_parts _ _ openings.0 in
    let aborts = and_parts _ _ few_aborts.0 in
    let registers = and_parts _ _ aborts.0 in
    let ranges = and_parts _ _ registers.0 in
    let burst = and_parts _ _ ranges.0 in
    let device = and_parts _ _ burst.0 in
    record {
      device = leb-true _ _ device.0;
      stalls = leb-true _ _ device.1;
      burst = Within-parts _ _ _ burst.1;
      ranges = ranges.1;
      registers = leb-true _ _ registers.1;
      aborts = aborts.1;
      few_aborts = leb-true _ _ few_aborts.1;
      openings = openings.1;
      few_openings = leb-true _ _ few_openings.1;
    }

pub Target-from : (target : Target) → IsWellFormedTarget target → is_well_formed_target target ≡ true
Target-from target is =
    let numbers = and_from _ _ (and_from _ _ (le-leb _ _ is.device) (le-leb _ _ is.stalls)) (Within-from _ _ _ is.burst) in
    let ranges = and_from _ _ (and_from _ _ numbers is.ranges) (le-leb _ _ is.registers) in
    let aborts = and_from _ _ (and_from _ _ ranges is.aborts) (le-leb _ _ is.few_aborts) in
    and_from _ _ (and_from _ _ aborts is.openings) (le-leb _ _ is.few_openings)

-- a write of a program
pub Write-parts : (space : Space) (address : ℕ) (phases : List Phase) → is_well_formed_write address phases (Some space) ≡ true → IsWellFormedWrite space address phases
Write-parts space address phases formed =
    let enables = and_parts _ _ formed in
    let burst = and_parts _ _ enables.0 in
    record { aligned = burst.0; burst = burst.1; enables = enables.1 }

pub Write-from : (space : Space) (address : ℕ) (phases : List Phase) → IsWellFormedWrite space address phases → is_well_formed_write address phases (Some space) ≡ true
Write-from space address phases is = and_from _ _ (and_from _ _ is.aligned is.burst) is.enables

-- a master
pub Master-parts : (master : Master) → is_well_formed_master master ≡ true → IsWellFormedMaster master
Master-parts master formed = let parts = and_parts _ _ formed in record { few = leb-true _ _ parts.0; ops = parts.1 }

pub Master-from : (master : Master) → IsWellFormedMaster master → is_well_formed_master master ≡ true
Master-from master is = and_from _ _ (le-leb _ _ is.few) is.ops

-- how many there are on each bus
pub Few-parts : (board : Board) → are_few board ≡ true → AreFew board
Few-parts board few =
    let masters = and_parts _ _ few in
    let targets = and_parts _ _ masters.0 in
    record { bridges = targets.0; targets = targets.1; masters = masters.1 }

pub Few-from : (board : Board) → AreFew board → are_few board ≡ true
Few-from board is = and_from _ _ (and_from _ _ is.bridges is.targets) is.masters

-- the board as a whole
pub WellFormed-parts : (board : Board) → is_well_formed board ≡ true → IsWellFormed board
WellFormed-parts board formed =
    let drops = and_parts _ _ formed in
    let drops_fit = and_parts _ _ drops.0 in
    let discards = and_parts _ _ drops_fit.0 in
    let discards_fit = and_parts _ _ discards.0 in
    let operations = and_parts _ _ discards_fit.0 in
    let masters_named = and_parts _ _ operations.0 in
    let targets_named = and_parts _ _ masters_named.0 in
    let few = and_parts _ _ targets_named.0 in
    let masters = and_parts _ _ few.0 in
    let targets = and_parts _ _ masters.0 in
    let numbered = and_parts _ _ targets.0 in
    let bridges = and_parts _ _ numbered.0 in
    record {
      bridges_fit = leb-true _ _ bridges.0;
      bridges = bridges.1;
      numbered_apart = numbered.1;
      targets = targets.1;
      masters = masters.1;
      few = Few-parts board few.1;
      targets_named_apart = targets_named.1;
      masters_named_apart = masters_named.1;
      operations = leb-true _ _ operations.1;
      discards_fit = leb-true _ _ discards_fit.1;
      discards = discards.1;
      drops_fit = leb-true _ _ drops_fit.1;
      drops = drops.1;
    }

pub WellFormed-from : (board : Board) → IsWellFormed board → is_well_formed board ≡ true
WellFormed-from board is =
    let bridges = and_from _ _ (and_from _ _ (le-leb _ _ is.bridges_fit) is.bridges) is.numbered_apart in
    let agents = and_from _ _ (and_from _ _ (and_from _ _ bridges is.targets) is.masters) (Few-from board is.few) in
    let names = and_from _ _ (and_from _ _ agents is.targets_named_apart) is.masters_named_apart in
    let discards = and_from _ _ (and_from _ _ (and_from _ _ names (le-leb _ _ is.operations)) (le-leb _ _ is.discards_fit)) is.discards in
    and_from _ _ (and_from _ _ discards (le-leb _ _ is.drops_fit)) is.drops
