-- The lines of masters, and those that discard or drop, as they are printed are read as what they say.
use Rattle.std.proofs.Common.{◌≡◌, ℕ, ◌^◌, ◌<◌, ◌≤◌, Bool, true, false, ltb, ◌&&◌, ◌||◌, List, [], ◌∷◌, map, length, take, Result, Ok, arith, refl, ap, ◌∙◌}
use Rattle.std.specs.Prelude.{codes}
use Rattle.std.specs.List.{AllByRecursion, list_all}
use Rattle.std.specs.Fmt.{decimal}
use Rattle.std.proofs.lemmas.Bool.{le-ltb}
use Rattle.std.proofs.lemmas.Bool.Decides.{nat_tests}
use Rattle.std.proofs.lemmas.List.{take_all}
use Rattle.pci_command.specs.declared.command.Space.{Space}
use Rattle.pci_command.specs.declared.command.Space.TheVariants.{Mem, Io, Cfg}
use Rattle.pci_command.specs.declared.command.Command.{Command}
use Rattle.pci_command.specs.declared.command.Command.TheVariants.{IoRead, IoWrite, MemRead, MemWrite, CfgRead as ConfigurationRead, CfgWrite as ConfigurationWrite, MemReadMultiple, MemReadLine, MemWriteInvalidate}
use Rattle.pci_command.specs.declared.phases.Phase.{Phase}
use Rattle.board_model.specs.Limits.{most_dwords, most_tries}
use Rattle.board_model.specs.declared.op.Op.{Op}
use Rattle.board_model.specs.declared.op.Op.TheVariants.{Read, Write, CfgRead, CfgWrite, Poll}
use Rattle.board_model.specs.declared.agents.Master.{Master}
use Rattle.board_model.specs.declared.board.Planned.{Planned}
use Rattle.board_model.specs.WellFormed.{read_space, write_space, is_well_formed_phase, is_well_formed_read, is_well_formed_write, is_well_formed_op, is_well_formed_plan, is_dword_in, is_within}
use Rattle.board_printer.specs.Numbers.{phase_text}
use Rattle.board_printer.specs.Masters.{master_line, op_line, write_line}
use Rattle.board_printer.specs.Spaces.{direction_word}
use Rattle.board_printer.specs.Boards.{is_short, is_short_op, planned_line}
use Rattle.text_faults.specs.declared.board_line.LineFault.{LineFault}
use Rattle.board_statements.specs.declared.statement.Statement.TheVariants.{NewMaster, Does, Discards, Drops}
use Rattle.board_statements.specs.Words.{fixed_of, name_of}
use Rattle.board_statements.specs.Keywords.{line_form}
use Rattle.board_statements.specs.Masters.{master_form, read_form, data_words, burst_words, burst_write_form, port_write_form, register_read_form, register_write_form, poll_form, planned_form, discard_form, drop_form, direction_of_word}
use Rattle.board_statements.specs.Statements.{behind_word, statement_form, statement_of}
use Rattle.board_model.specs.Fits.{MasterFits, OpFits, PhaseFits, PlannedFits}
use Rattle.board_roundtrip.proofs.lines.NumberTexts.{decimal_is_read}
use Rattle.board_roundtrip.proofs.lines.PartTexts.{word_is_read, address_is_read, phase_is_read}
use Rattle.board_roundtrip.proofs.lines.TargetTexts.{port_is_read, port_hex_is_read}

pub master_is_read : (wide : Bool) (master : Master) → MasterFits master → statement_of wide (master_line master) ≡ Ok (NewMaster master.name master.bus)
unfolding statement_of statement_form behind_word line_form master_form fixed_of name_of
master_is_read wide master fits =
    let bus = decimal_is_read 0 255 master.bus (omega arith) (let below = fits.bus in omega arith) (omega arith) in
    rw (fits.name, bus) refl

read_is_read : (wide : Bool) (command : Command) (address : ℕ) → address < 2 ^ 64 → is_well_formed_read address (read_space command) ≡ true → (wide || is_short address) ≡ true
    → statement_of wide (op_line (Read command address)) ≡ Ok (Does (Read command address) false)
unfolding statement_of statement_form behind_word line_form read_form
read_is_read wide IoRead address fits formed may =
    let below : address < 2 ^ 32 = grind (arith, nat_tests) in
    rw (port_is_read address below) refl
read_is_read wide MemRead address fits formed may = rw (address_is_read wide address fits may) refl
read_is_read wide MemReadMultiple address fits formed may = rw (address_is_read wide address fits may) refl
read_is_read wide MemReadLine address fits formed may = rw (address_is_read wide address fits may) refl
read_is_read wide IoWrite address fits formed may = absurd (let apart : false ≡ true = formed in cc)
read_is_read wide MemWrite address fits formed may = absurd (let apart : false ≡ true = formed in cc)
read_is_read wide ConfigurationRead address fits formed may = absurd (let apart : false ≡ true = formed in cc)
read_is_read wide ConfigurationWrite address fits formed may = absurd (let apart : false ≡ true = formed in cc)
read_is_read wide MemWriteInvalidate address fits formed may = absurd (let apart : false ≡ true = formed in cc)

abbrev phases_so : List Phase → Result (List Phase) LineFault
phases_so phases = Ok phases

phases_are_read : (phases : List Phase) → AllByRecursion PhaseFits phases → list_all is_well_formed_phase phases ≡ true → data_words (map phase_text phases) ≡ phases_so phases
phases_are_read [] fits formed = refl
phases_are_read (phase ∷ phases) fits formed =
    let few : phase.enables ≤ 15 = grind (arith, nat_tests) in
    let others : list_all is_well_formed_phase phases ≡ true = grind (arith, nat_tests) in
    rw (phase_is_read phase fits.0 few, phases_are_read phases fits.1 others) refl

abbrev burst_so : List Phase → Result ((List Phase × Bool) × List (List ℕ)) LineFault
burst_so phases = Ok ((phases, false), [])

burst_is_read : (phases : List Phase) → AllByRecursion PhaseFits phases → list_all is_well_formed_phase phases ≡ true → 1 ≤ length phases
    → length phases ≤ most_dwords → burst_words (map phase_text phases) ≡ burst_so phases
unfolding burst_words
burst_is_read [] fits formed some few = absurd (omega arith)
burst_is_read (phase ∷ phases) fits formed some few =
    let bits : phase.enables ≤ 15 = grind (arith, nat_tests) in
    let others : list_all is_well_formed_phase phases ≡ true = grind (arith, nat_tests) in
    let short : ltb most_dwords (length (phase ∷ phases)) ≡ false = le-ltb _ _ few in
    let all : take most_dwords (phase ∷ phases) ≡ phase ∷ phases = take_all most_dwords (phase ∷ phases) few in
    rw (phase_is_read phase fits.0 bits, phases_are_read phases fits.1 others) (ap (λ (kept : List Phase). burst_kept kept (ltb most_dwords (length (phase ∷ phases)))) all ∙ ap (burst_kept (phase ∷ phases)) short)
  where
    burst_kept : List Phase → Bool → Result ((List Phase × Bool) × List (List ℕ)) LineFault
    burst_kept kept many = Ok ((kept, many), [])

burst_write_is_read : (wide : Bool) (address : ℕ) (phases : List Phase) → address < 2 ^ 64 → AllByRecursion PhaseFits phases → list_all is_well_formed_phase phases ≡ true
    → 1 ≤ length phases → length phases ≤ most_dwords → (wide || is_short address) ≡ true
    → (statement_of wide (write_line MemWrite address phases) ≡ Ok (Does (Write MemWrite address phases) false)) × (statement_of wide (write_line MemWriteInvalidate address phases) ≡ Ok (Does (Write MemWriteInvalidate address phases) false))
unfolding statement_of statement_form behind_word line_form burst_write_form
burst_write_is_read wide address phases fits values formed some few may =
    let burst = burst_is_read phases values formed some few in
    let place = address_is_read wide address fits may in
    (rw (place, burst) refl, rw (place, burst) refl)

port_write_is_read : (wide : Bool) (address : ℕ) (phases : List Phase) → address < 2 ^ 32 → AllByRecursion PhaseFits phases → list_all is_well_formed_phase phases ≡ true → length phases ≡ 1
    → statement_of wide (write_line IoWrite address phases) ≡ Ok (Does (Write IoWrite address phases) false)
unfolding statement_of statement_form behind_word line_form port_write_form
port_write_is_read wide address [] fits values formed one = absurd (omega arith)
port_write_is_read wide address (phase ∷ next ∷ phases) fits values formed one = absurd (omega arith)
port_write_is_read wide address (phase ∷ []) fits values formed one =
    let bits : phase.enables ≤ 15 = grind (arith, nat_tests) in
    rw (port_hex_is_read address fits, phase_is_read phase values.0 bits) refl

write_is_read : (wide : Bool) (command : Command) (address : ℕ) (phases : List Phase) → address < 2 ^ 64 → AllByRecursion PhaseFits phases → is_well_formed_write address phases (write_space command) ≡ true → (wide || is_short address) ≡ true
    → statement_of wide (op_line (Write command address phases)) ≡ Ok (Does (Write command address phases) false)
write_is_read wide MemWrite address phases fits values formed may =
    let words : list_all is_well_formed_phase phases ≡ true = grind (arith, nat_tests) in
    let some : 1 ≤ length phases = grind (arith, nat_tests) in
    let few : length phases ≤ most_dwords = grind (arith, nat_tests) in
    (burst_write_is_read wide address phases fits values words some few may).0
write_is_read wide MemWriteInvalidate address phases fits values formed may =
    let words : list_all is_well_formed_phase phases ≡ true = grind (arith, nat_tests) in
    let some : 1 ≤ length phases = grind (arith, nat_tests) in
    let few : length phases ≤ most_dwords = grind (arith, nat_tests) in
    (burst_write_is_read wide address phases fits values words some few may).1
write_is_read wide IoWrite address phases fits values formed may =
    let words : list_all is_well_formed_phase phases ≡ true = grind (arith, nat_tests) in
    let below : address < 2 ^ 32 = grind (arith, nat_tests) in
    let one : length phases ≡ 1 = grind (arith, nat_tests) in
    port_write_is_read wide address phases below values words one
write_is_read wide IoRead address phases fits values formed may = absurd (let apart : false ≡ true = formed in cc)
write_is_read wide MemRead address phases fits values formed may = absurd (let apart : false ≡ true = formed in cc)
write_is_read wide MemReadMultiple address phases fits values formed may = absurd (let apart : false ≡ true = formed in cc)
write_is_read wide MemReadLine address phases fits values formed may = absurd (let apart : false ≡ true = formed in cc)
write_is_read wide ConfigurationRead address phases fits values formed may = absurd (let apart : false ≡ true = formed in cc)
write_is_read wide ConfigurationWrite address phases fits values formed may = absurd (let apart : false ≡ true = formed in cc)

poll_is_read : (wide : Bool) (space : Space) (address mask wanted : ℕ) (differs : Bool) (tries : ℕ) → address < 2 ^ 64 → mask < 2 ^ 32 → wanted < 2 ^ 32 → (is_dword_in space address && is_within 1 most_tries tries) ≡ true → (wide || is_short address) ≡ true
    → (let op : Op = Poll space address (record { mask = mask; wanted = wanted; differs = differs }) tries in statement_of wide (op_line op) ≡ Ok (Does op false))
unfolding statement_of statement_form behind_word line_form poll_form
poll_is_read wide Mem address mask wanted false tries fits of_mask of_value formed may =
    let some : 1 ≤ tries = grind (arith, nat_tests) in
    let few : tries ≤ most_tries = grind (arith, nat_tests) in
    rw (address_is_read wide address fits may, word_is_read mask of_mask, word_is_read wanted of_value, decimal_is_read 1 most_tries tries some few (omega arith)) refl
poll_is_read wide Mem address mask wanted true tries fits of_mask of_value formed may =
    let some : 1 ≤ tries = grind (arith, nat_tests) in
    let few : tries ≤ most_tries = grind (arith, nat_tests) in
    rw (address_is_read wide address fits may, word_is_read mask of_mask, word_is_read wanted of_value, decimal_is_read 1 most_tries tries some few (omega arith)) refl
poll_is_read wide Io address mask wanted false tries fits of_mask of_value formed may =
    let some : 1 ≤ tries = grind (arith, nat_tests) in
    let few : tries ≤ most_tries = grind (arith, nat_tests) in
    let below : address < 2 ^ 32 = grind (arith, nat_tests) in
    rw (port_is_read address below, word_is_read mask of_mask, word_is_read wanted of_value, decimal_is_read 1 most_tries tries some few (omega arith)) refl
poll_is_read wide Io address mask wanted true tries fits of_mask of_value formed may =
    let some : 1 ≤ tries = grind (arith, nat_tests) in
    let few : tries ≤ most_tries = grind (arith, nat_tests) in
    let below : address < 2 ^ 32 = grind (arith, nat_tests) in
    rw (port_is_read address below, word_is_read mask of_mask, word_is_read wanted of_value, decimal_is_read 1 most_tries tries some few (omega arith)) refl
poll_is_read wide Cfg address mask wanted differs tries fits of_mask of_value formed may = absurd (let apart : false ≡ true = formed in cc)

register_read_is_read : (wide : Bool) (bus device register : ℕ) → bus < 2 ^ 8 → is_well_formed_op (CfgRead bus device register) ≡ true → statement_of wide (op_line (CfgRead bus device register)) ≡ Ok (Does (CfgRead bus device register) false)
unfolding statement_of statement_form behind_word line_form register_read_form
register_read_is_read wide bus device register fits formed =
    let of_device : device ≤ 31 = grind (arith, nat_tests) in
    let of_register : register ≤ 63 = grind (arith, nat_tests) in
    rw (decimal_is_read 0 255 bus (omega arith) (omega arith) (omega arith), decimal_is_read 0 31 device (omega arith) of_device (omega arith), decimal_is_read 0 63 register (omega arith) of_register (omega arith)) refl

register_write_is_read : (wide : Bool) (bus device register : ℕ) (phase : Phase) → bus < 2 ^ 8 → PhaseFits phase → is_well_formed_op (CfgWrite bus device register phase) ≡ true
    → statement_of wide (op_line (CfgWrite bus device register phase)) ≡ Ok (Does (CfgWrite bus device register phase) false)
unfolding statement_of statement_form behind_word line_form register_write_form
register_write_is_read wide bus device register phase fits value formed =
    let of_device : device ≤ 31 = grind (arith, nat_tests) in
    let of_register : register ≤ 63 = grind (arith, nat_tests) in
    let bits : phase.enables ≤ 15 = grind (arith, nat_tests) in
    rw (decimal_is_read 0 255 bus (omega arith) (omega arith) (omega arith), decimal_is_read 0 31 device (omega arith) of_device (omega arith), decimal_is_read 0 63 register (omega arith) of_register (omega arith), phase_is_read phase value bits) refl

pub op_is_read : (wide : Bool) (op : Op) → OpFits op → is_well_formed_op op ≡ true → (wide || is_short_op op) ≡ true → statement_of wide (op_line op) ≡ Ok (Does op false)
op_is_read wide (Read command address) fits formed may = read_is_read wide command address fits formed may
op_is_read wide (Write command address phases) fits formed may = write_is_read wide command address phases fits.0 fits.1 formed may
op_is_read wide (CfgRead bus device register) fits formed may = register_read_is_read wide bus device register fits formed
op_is_read wide (CfgWrite bus device register phase) fits formed may = register_write_is_read wide bus device register phase fits.0 fits.1 formed
op_is_read wide (Poll space address want tries) fits formed may = poll_is_read wide space address want.mask want.wanted want.differs tries fits.0 fits.1.0 fits.1.1 formed may

abbrev planned_so : Planned → Result (Planned × List (List ℕ)) LineFault
planned_so planned = Ok (planned, [])

plan_parts : (bus : ℕ) (up : Bool) (count : ℕ) → bus < 2 ^ 8 → 1 ≤ count → count ≤ 1000000 → planned_form (decimal bus ∷ direction_word up ∷ decimal count ∷ []) ≡ planned_so (record { bus = bus; up = up; count = count })
unfolding planned_form direction_of_word
plan_parts bus true count fits some few = rw (decimal_is_read 0 255 bus (omega arith) (omega arith) (omega arith), decimal_is_read 1 1000000 count some few (omega arith)) refl
plan_parts bus false count fits some few = rw (decimal_is_read 0 255 bus (omega arith) (omega arith) (omega arith), decimal_is_read 1 1000000 count some few (omega arith)) refl

plan_is_read : (planned : Planned) → PlannedFits planned → is_well_formed_plan planned ≡ true → planned_form (decimal planned.bus ∷ direction_word planned.up ∷ decimal planned.count ∷ []) ≡ planned_so planned
plan_is_read planned fits formed = plan_parts planned.bus planned.up planned.count fits (grind (arith, nat_tests)) (grind (arith, nat_tests))

pub discard_is_read : (wide : Bool) (planned : Planned) → PlannedFits planned → is_well_formed_plan planned ≡ true → statement_of wide (planned_line (codes "discard") planned) ≡ Ok (Discards planned)
unfolding statement_of statement_form behind_word line_form discard_form
discard_is_read wide planned fits formed = rw (plan_is_read planned fits formed) refl

pub drop_is_read : (wide : Bool) (planned : Planned) → PlannedFits planned → is_well_formed_plan planned ≡ true → statement_of wide (planned_line (codes "drop") planned) ≡ Ok (Drops planned)
unfolding statement_of statement_form behind_word line_form drop_form
drop_is_read wide planned fits formed = rw (plan_is_read planned fits formed) refl
