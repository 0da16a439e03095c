-- How long the words of printed lines are: no line is longer than a text may have.
use Rattle.std.proofs.Common.{◌≡◌, ℕ, ◌+◌, ◌*◌, ◌/◌, ◌%◌, ◌^◌, ◌<◌, ◌≤◌, Bool, true, false, cond, eqb, ltb, List, [], ◌∷◌, ◌++◌, length, map, Option, Some, None, arith}
use Rattle.std.specs.Prelude.{codes}
use Rattle.std.proofs.lemmas.Bool.Decides.{nat_tests}
use Rattle.std.proofs.lemmas.List.{length-append}
use Rattle.std.proofs.lemmas.Fmt.{length-decimal-le}
use Rattle.std.specs.Fmt.{digit_glyph, decimal}
use Rattle.pci_command.specs.declared.command.Space.{Space}
use Rattle.pci_command.specs.declared.command.Space.TheVariants.{Mem, Io, Cfg}
use Rattle.pci_command.specs.declared.command.Command.{Command}
use Rattle.pci_command.specs.declared.command.Command.TheVariants.{IoRead, IoWrite, MemRead, MemWrite, CfgRead as ConfigurationRead, CfgWrite as ConfigurationWrite, MemReadMultiple, MemReadLine, MemWriteInvalidate}
use Rattle.pci_command.specs.declared.phases.Phase.{Phase}
use Rattle.board_model.specs.Limits.{most_posted, most_delayed}
use Rattle.board_model.specs.Names.{is_name}
use Rattle.board_model.specs.declared.bridge.Window.{Window}
use Rattle.board_model.specs.declared.bridge.Bridge.{Bridge}
use Rattle.board_model.specs.declared.agents.Range.{Range}
use Rattle.board_model.specs.declared.agents.Opening.{Opening}
use Rattle.board_model.specs.declared.agents.Target.{Target}
use Rattle.board_model.specs.declared.agents.Master.{Master}
use Rattle.board_model.specs.declared.op.Op.{Op}
use Rattle.board_model.specs.declared.op.Op.TheVariants.{Read, Write, CfgRead, CfgWrite, Poll}
use Rattle.board_model.specs.declared.board.Planned.{Planned}
use Rattle.board_model.specs.WellFormed.{is_well_formed_op}
use Rattle.board_printer.specs.Numbers.{word_text, half_text, address_text, enables_text, phase_text}
use Rattle.board_printer.specs.Spaces.{space_word, poll_word, command_word, direction_word}
use Rattle.board_printer.specs.Bridges.{window_words, depth_words, mode_words, option_words, bridge_line}
use Rattle.board_printer.specs.Targets.{target_line, range_line, opening_line}
use Rattle.board_printer.specs.Masters.{master_line, op_line}
use Rattle.board_printer.specs.Boards.{planned_line}
use Rattle.board_model.specs.Fits.{BridgeFits, TargetFits, MasterFits}
use Rattle.board_roundtrip.proofs.lines.PartTexts.{word_length}
use Rattle.board_roundtrip.proofs.lines.PlainTexts.{DecimalsFit}
use Rattle.board_roundtrip.proofs.lines.AllowedTexts.{width, width-append}
use Rattle.board_roundtrip.proofs.words.Laws.{hex_length}
use Rattle.board_model.proofs.Laws.{op_phases}

pub decimal_width : (n : ℕ) → n < 2 ^ 32 → length (decimal n) ≤ 10
decimal_width n below = length-decimal-le 10 n (omega arith) (omega arith) (omega arith)

pub half_width : (n : ℕ) → length (half_text n) ≡ 4
unfolding half_text
half_width n = hex_length 4 n

address_width : (n : ℕ) → length (address_text n) ≤ 17
unfolding address_text
address_width n =
    let upper = word_length (n / 2 ^ 32) in
    let lower = word_length (n % 2 ^ 32) in
    let whole = word_length n in
    let sum = length-append (word_text (n / 2 ^ 32)) (58 ∷ word_text (n % 2 ^ 32)) in
    let P : Bool → Type 0 = λ b. length (cond b (word_text n) (word_text (n / 2 ^ 32) ++ 58 ∷ word_text (n % 2 ^ 32))) ≤ 17 in
    elim (ltb n (2 ^ 32)) as P [ true ↦ omega (arith, whole) | false ↦ omega (arith, upper, lower, sum) ]

phase_width : (phase : Phase) → length (phase_text phase) ≤ 10
unfolding phase_text
phase_width phase =
    let bits = phase.enables % 16 in
    let value = word_length phase.value in
    let sum = length-append (word_text phase.value) (enables_text bits) in
    let P : Bool → Type 0 = λ b. length (cond b [] (47 ∷ digit_glyph false bits ∷ [])) ≤ 2 in
    let enables : length (enables_text bits) ≤ 2 = elim (eqb bits 15) as P [ true ↦ omega arith | false ↦ omega arith ] in
    omega (arith, value, sum, enables)

name_width : (name : List ℕ) → is_name name ≡ true → length name ≤ 16
name_width [] named = omega arith
name_width (byte ∷ name) named =
    let few : length name ≤ 15 = grind (arith, nat_tests) in
    omega arith

pub target_width : (target : Target) → TargetFits target → target.device ≤ 31 → width (target_line target) ≤ 257
target_width target fits few =
    let below = fits.bus in
    let name = name_width target.name fits.name in
    let bus = decimal_width target.bus (omega arith) in
    let device = decimal_width target.device (omega arith) in
    omega (arith, name, bus, device)

pub master_width : (master : Master) → MasterFits master → width (master_line master) ≤ 257
master_width master fits =
    let below = fits.bus in
    let name = name_width master.name fits.name in
    let bus = decimal_width master.bus (omega arith) in
    omega (arith, name, bus)

space_width : (space : Space) → length (space_word space) ≤ 3
space_width Mem = omega arith
space_width Io = omega arith
space_width Cfg = omega arith

poll_width : (space : Space) (differs : Bool) → length (poll_word space differs) ≤ 10
poll_width Mem false = omega arith
poll_width Mem true = omega arith
poll_width Io false = omega arith
poll_width Io true = omega arith
poll_width Cfg false = omega arith
poll_width Cfg true = omega arith

command_width : (command : Command) → length (command_word command) ≤ 3
command_width IoRead = omega arith
command_width IoWrite = omega arith
command_width MemRead = omega arith
command_width MemWrite = omega arith
command_width ConfigurationRead = omega arith
command_width ConfigurationWrite = omega arith
command_width MemReadMultiple = omega arith
command_width MemReadLine = omega arith
command_width MemWriteInvalidate = omega arith

pub range_width : (word : List ℕ) (range : Range) → length word ≤ 5 → width (range_line word range) ≤ 257
range_width word range short =
    let space = space_width range.space in
    let base = address_width range.base in
    let size = address_width range.size in
    omega (arith, space, base, size)

pub opening_width : (opening : Opening) → width (opening_line opening) ≤ 257
opening_width opening =
    let space = space_width opening.space in
    let address = address_width opening.address in
    let value = word_length opening.value in
    omega (arith, space, address, value)

phases_width : (phases : List Phase) → width (map phase_text phases) ≤ 11 * length phases
phases_width [] = omega arith
phases_width (phase ∷ phases) =
    let here = phase_width phase in
    let others = phases_width phases in
    omega (arith, here, others)

pub op_width : (op : Op) → DecimalsFit op → is_well_formed_op op ≡ true → width (op_line op) ≤ 257
op_width (Read command address) fits formed =
    let word = command_width command in
    let place = address_width address in
    omega (arith, word, place)
op_width (Write command address phases) fits formed =
    let word = command_width command in
    let place = address_width address in
    let values = phases_width phases in
    let few = (op_phases (Write command address phases) formed).to in
    omega (arith, word, place, values, few)
op_width (CfgRead bus device register) fits formed =
    let a = decimal_width bus fits.0 in
    let b = decimal_width device fits.1 in
    let c = decimal_width register fits.2 in
    omega (arith, a, b, c)
op_width (CfgWrite bus device register phase) fits formed =
    let a = decimal_width bus fits.0 in
    let b = decimal_width device fits.1 in
    let c = decimal_width register fits.2 in
    let d = phase_width phase in
    omega (arith, a, b, c, d)
op_width (Poll space address want tries) fits formed =
    let word = poll_width space want.differs in
    let place = address_width address in
    let a = word_length want.mask in
    let b = word_length want.wanted in
    let c = decimal_width tries fits in
    omega (arith, word, place, a, b, c)

direction_width : (up : Bool) → length (direction_word up) ≤ 4
direction_width true = omega arith
direction_width false = omega arith

pub plan_width : (word : List ℕ) (planned : Planned) → length word ≤ 7 → planned.bus < 2 ^ 32 → planned.count < 2 ^ 32 → width (planned_line word planned) ≤ 257
plan_width word planned short of_bus of_count =
    let a = decimal_width planned.bus of_bus in
    let b = direction_width planned.up in
    let c = decimal_width planned.count of_count in
    omega (arith, a, b, c)

window_width : (word : List ℕ) (frame : Option Window) → width (window_words word frame) ≤ length word + 37
window_width word None = omega arith
window_width word (Some it) =
    let base = address_width it.base in
    let limit = address_width it.limit in
    omega (arith, base, limit)

depth_width : (word : List ℕ) (n : ℕ) → n < 2 ^ 32 → width (depth_words word n) ≤ length word + 12
depth_width word n below =
    let digits = decimal_width n below in
    let P : Bool → Type 0 = λ b. width (cond b [] (word ∷ decimal n ∷ [])) ≤ length word + 12 in
    elim (eqb n 4) as P [ true ↦ omega arith | false ↦ omega (arith, digits) ]

mode_width : (mode : Bool) → width (mode_words mode) ≤ 8
mode_width true = omega arith
mode_width false = omega arith

options_width : (bridge : Bridge) → bridge.posted ≤ most_posted → bridge.delayed ≤ most_delayed → width (option_words bridge) ≤ 170
options_width bridge of_posted of_delayed =
    let modes = mode_words bridge.mode in
    let delays = depth_words (codes "delayed") bridge.delayed ++ modes in
    let posts = depth_words (codes "posted") bridge.posted ++ delays in
    let ios = window_words (codes "io") bridge.io ++ posts in
    let prefs = window_words (codes "pref") bridge.pref ++ ios in
    let a = width-append (window_words (codes "mem") bridge.mem) prefs in
    let b = width-append (window_words (codes "pref") bridge.pref) ios in
    let c = width-append (window_words (codes "io") bridge.io) posts in
    let d = width-append (depth_words (codes "posted") bridge.posted) delays in
    let e = width-append (depth_words (codes "delayed") bridge.delayed) modes in
    let mem = window_width (codes "mem") bridge.mem in
    let pref = window_width (codes "pref") bridge.pref in
    let io = window_width (codes "io") bridge.io in
    let posted = depth_width (codes "posted") bridge.posted (omega arith) in
    let delayed = depth_width (codes "delayed") bridge.delayed (omega arith) in
    let mode = mode_width bridge.mode in
    omega (arith, a, b, c, d, e, mem, pref, io, posted, delayed, mode)

pub bridge_width : (bridge : Bridge) → BridgeFits bridge → bridge.device ≤ 31 → bridge.posted ≤ most_posted → bridge.delayed ≤ most_delayed → width (bridge_line bridge) ≤ 257
bridge_width bridge fits of_device of_posted of_delayed =
    let below = fits.bus in
    let above = fits.parent in
    let behind = fits.last in
    let a = decimal_width bridge.bus (omega arith) in
    let b = decimal_width bridge.parent (omega arith) in
    let c = decimal_width bridge.device (omega arith) in
    let d = decimal_width bridge.last (omega arith) in
    let options = options_width bridge of_posted of_delayed in
    omega (arith, a, b, c, d, options)
