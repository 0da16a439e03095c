-- A well-formed board meets what the laws ask of a board.
use Rattle.std.proofs.Common.{◌≡◌, ℕ, ◌≤◌, Bool, true, false, not, ◌&&◌, ◌||◌, eqb, nat_le, List, [], ◌∷◌, length, refl, arith}
use Rattle.std.specs.List.{list_any, AllByRecursion, IsDistinct}
use Rattle.std.proofs.lemmas.Bool.{and_parts}
use Rattle.std.proofs.lemmas.Bool.Decides.{nat_tests}
use Rattle.list_facts.proofs.EachLemmas.{Each-weaker}
use Rattle.list_facts.proofs.TestLemmas.{Each-list_all}
use Rattle.pci_command.specs.declared.command.Command.{Command}
use Rattle.pci_command.specs.declared.command.Command.TheVariants.{IoRead, IoWrite, MemRead, MemWrite, CfgRead as ConfigurationRead, CfgWrite as ConfigurationWrite, MemReadMultiple, MemReadLine, MemWriteInvalidate}
use Rattle.pci_command.specs.declared.phases.Phase.{Phase}
use Rattle.pci_command.specs.Command.{plain_of}
use Rattle.pci_command.specs.Same.{same_command}
use Rattle.board_model.specs.Limits.{most_posted, most_delayed}
use Rattle.board_model.specs.declared.agents.Master.{Master}
use Rattle.board_model.specs.declared.bridge.Bridge.{Bridge}
use Rattle.board_model.specs.declared.op.Op.{Op}
use Rattle.board_model.specs.declared.op.Op.TheVariants.{Read, Write, CfgRead, CfgWrite, Poll}
use Rattle.board_model.specs.declared.board.Board.{Board}
use Rattle.board_model.specs.WellFormed.{is_well_formed_bridge, write_space, is_well_formed_write, is_well_formed_op, is_well_formed_master, has_bus, are_numbered_apart, is_well_formed}
use Rattle.law_lanes.specs.Depths.{same_number, DifferentNumbers, DepthsInLimits}
use Rattle.law_lanes.specs.Phases.{IsPostedOrSingle, DelayedAreSingle}
use Rattle.board_model.proofs.Laws.{WellFormed-parts, Bridge-parts, Master-parts}

none_has : (bus : ℕ) (bridge : Bridge) (bridges : List Bridge) → bridge.bus ≡ bus → list_any (has_bus bus) bridges ≡ false → AllByRecursion (λ (other : Bridge). same_number bridge other ≡ false) bridges
none_has bus bridge [] same none = tt
none_has bus bridge (other ∷ bridges) same none =
    let P : Bool → Type 0 = λ b. eqb other.bus bus ≡ b → (b || list_any (has_bus bus) bridges) ≡ false → AllByRecursion (λ (other : Bridge). same_number bridge other ≡ false) (other ∷ bridges) in
    (elim (eqb other.bus bus) as P [
      | true ↦ λ _ e. cc
      | false ↦ λ differ e. (grind (arith, nat_tests), none_has bus bridge bridges same e)
    ]) refl none

apart_distinct : (bridges : List Bridge) → are_numbered_apart bridges ≡ true → IsDistinct same_number bridges
unfolding IsDistinct
apart_distinct [] apart = tt
apart_distinct (bridge ∷ bridges) apart =
    let any : Bool = list_any (has_bus bridge.bus) bridges in
    let parts = and_parts (not any) (are_numbered_apart bridges) apart in
    let P : Bool → Type 0 = λ b. not b ≡ true → b ≡ false in
    let none : any ≡ false = (elim any as P [ true ↦ λ e. cc | false ↦ λ _. refl ]) parts.0 in
    (none_has bridge.bus bridge bridges refl none, apart_distinct bridges parts.1)

write_single : (command : Command) (address : ℕ) (phases : List Phase) → is_well_formed_write address phases (write_space command) ≡ true → same_command (plain_of command) MemWrite ≡ false → length phases ≤ 1
write_single IoRead address phases well delayed = cc
write_single IoWrite address phases well delayed = grind (arith, nat_tests)
write_single MemRead address phases well delayed = cc
write_single MemWrite address phases well delayed = cc
write_single ConfigurationRead address phases well delayed = cc
write_single ConfigurationWrite address phases well delayed = cc
write_single MemReadMultiple address phases well delayed = cc
write_single MemReadLine address phases well delayed = cc
write_single MemWriteInvalidate address phases well delayed = cc

op_single : (op : Op) → is_well_formed_op op ≡ true → IsPostedOrSingle op
op_single (Read command address) well = λ delayed. omega arith
op_single (Write command address phases) well = write_single command address phases well
op_single (CfgRead bus device register) well = λ delayed. omega arith
op_single (CfgWrite bus device register phase) well = λ delayed. omega arith
op_single (Poll space address want tries) well = λ delayed. omega arith

pub WellFormed-numbers : (board : Board) → is_well_formed board ≡ true → DifferentNumbers board
WellFormed-numbers board well = apart_distinct board.bridges (WellFormed-parts board well).numbered_apart

pub WellFormed-depths : (board : Board) → is_well_formed board ≡ true → DepthsInLimits board
WellFormed-depths board well =
    let P : Bridge → Type 0 = λ bridge. is_well_formed_bridge bridge ≡ true in
    let Q : Bridge → Type 0 = λ bridge. (bridge.posted ≤ most_posted) × (bridge.delayed ≤ most_delayed) in
    let few : (bridge : Bridge) → P bridge → Q bridge = λ bridge formed. let form = Bridge-parts bridge formed in (form.posted.to, form.delayed.to) in
    Each-weaker P Q few board.bridges (Each-list_all is_well_formed_bridge board.bridges (WellFormed-parts board well).bridges)

master_single : (master : Master) → is_well_formed_master master ≡ true → AllByRecursion IsPostedOrSingle master.ops
master_single master well =
    Each-weaker (λ (op : Op). is_well_formed_op op ≡ true) IsPostedOrSingle op_single master.ops (Each-list_all is_well_formed_op master.ops (Master-parts master well).ops)

pub WellFormed-single : (board : Board) → is_well_formed board ≡ true → DelayedAreSingle board
WellFormed-single board well =
    let P : Master → Type 0 = λ master. is_well_formed_master master ≡ true in
    let Q : Master → Type 0 = λ master. AllByRecursion IsPostedOrSingle master.ops in
    Each-weaker P Q master_single board.masters (Each-list_all is_well_formed_master board.masters (WellFormed-parts board well).masters)
