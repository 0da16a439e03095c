-- What is printed on a line is plain words.
use Rattle.std.proofs.Common.{◌≡◌, ℕ, ◌/◌, ◌%◌, ◌^◌, ◌<◌, ◌≤◌, Bool, true, false, cond, eqb, ltb, List, [], ◌∷◌, ◌++◌, length, map, Option, Some, None, arith, refl, sym, subst, ◌∙◌}
use Rattle.std.specs.Prelude.{codes}
use Rattle.std.proofs.lemmas.Bool.{lt-ltb, le-leb, eqb-true}
use Rattle.std.proofs.lemmas.Bool.Decides.{nat_tests}
use Rattle.std.proofs.lemmas.List.{length-append}
use Rattle.std.proofs.lemmas.List.Folds.{list_all-append}
use Rattle.std.specs.List.{list_all}
use Rattle.std.specs.Char.{is_digit}
use Rattle.std.specs.Fmt.{digit_glyph, decimal}
use Rattle.pci_command.specs.declared.command.Space.{Space}
use Rattle.pci_command.specs.declared.command.Space.TheVariants.{Mem, Io, Cfg}
use Rattle.pci_command.specs.declared.command.Command.{Command}
use Rattle.pci_command.specs.declared.command.Command.TheVariants.{IoRead, IoWrite, MemRead, MemWrite, CfgRead as ConfigurationRead, CfgWrite as ConfigurationWrite, MemReadMultiple, MemReadLine, MemWriteInvalidate}
use Rattle.pci_command.specs.declared.phases.Phase.{Phase}
use Rattle.board_model.specs.Limits.{most_posted, most_delayed}
use Rattle.board_model.specs.Names.{is_name, is_name_start, is_name_byte}
use Rattle.board_model.specs.declared.bridge.Window.{Window}
use Rattle.board_model.specs.declared.bridge.Bridge.{Bridge}
use Rattle.board_model.specs.declared.agents.Range.{Range}
use Rattle.board_model.specs.declared.agents.Opening.{Opening}
use Rattle.board_model.specs.declared.agents.Target.{Target}
use Rattle.board_model.specs.declared.agents.Master.{Master}
use Rattle.board_model.specs.declared.op.Op.{Op}
use Rattle.board_model.specs.declared.op.Op.TheVariants.{Read, Write, CfgRead, CfgWrite, Poll}
use Rattle.board_model.specs.declared.board.Planned.{Planned}
use Rattle.board_printer.specs.Numbers.{word_text, address_text, enables_text, phase_text}
use Rattle.board_printer.specs.Spaces.{space_word, poll_word, command_word, direction_word}
use Rattle.board_printer.specs.Bridges.{window_words, depth_words, mode_words, option_words, bridge_line}
use Rattle.board_printer.specs.Targets.{target_line, range_line, opening_line}
use Rattle.board_printer.specs.Masters.{master_line, op_line}
use Rattle.board_printer.specs.Boards.{planned_line}
use Rattle.board_roundtrip.specs.words.Printed.{is_word_byte, is_word}
use Rattle.board_model.specs.Fits.{BridgeFits, TargetFits, MasterFits}
use Rattle.board_roundtrip.proofs.words.Laws.{hex_length, glyph_is_digit, hex_words, eight_word, decimal_word}

-- a byte that passes a test is none that fails it
apart_from : (test : ℕ → Bool) (mark byte : ℕ) → test mark ≡ false → test byte ≡ true → eqb byte mark ≡ false
apart_from test mark byte none passes =
    let P : Bool → Type 0 = λ b. eqb byte mark ≡ b → b ≡ false in
    (elim (eqb byte mark) as P [
      | true ↦ λ same.
          let equal : byte ≡ mark = eqb-true byte mark same in
          let both : test mark ≡ true = subst (λ (c : ℕ). test c ≡ true) equal passes in
          absurd (let apart : true ≡ false = sym both ∙ none in cc)
      | false ↦ λ other. refl
    ]) refl

-- a test that only characters of words pass
record IsPlain (test : ℕ → Bool) : Type 0 where
  mark : test 35 ≡ false
  printing : (byte : ℕ) → test byte ≡ true → (33 ≤ byte) × (byte ≤ 126)

plain_by : (test : ℕ → Bool) → IsPlain test → (byte : ℕ) → test byte ≡ true → is_word_byte byte ≡ true
plain_by test plain byte passes =
    let bounds = plain.printing byte passes in
    let low = le-leb 33 byte bounds.0 in
    let high = le-leb byte 126 bounds.1 in
    rw (low, high, apart_from test 35 byte plain.mark passes) refl

all_plain_by : (test : ℕ → Bool) → IsPlain test → (word : List ℕ) → list_all test word ≡ true → list_all is_word_byte word ≡ true
all_plain_by test plain [] all = refl
all_plain_by test plain (byte ∷ word) all =
    let here : test byte ≡ true = grind arith in
    let others : list_all test word ≡ true = grind arith in
    rw (plain_by test plain byte here, all_plain_by test plain word others) refl

digit_bounds : (byte : ℕ) → is_digit byte 16 ≡ true → (33 ≤ byte) × (byte ≤ 126)
digit_bounds byte digit = (grind (arith, nat_tests), grind (arith, nat_tests))

start_bounds : (byte : ℕ) → is_name_start byte ≡ true → (33 ≤ byte) × (byte ≤ 126)
start_bounds byte start = (grind (arith, nat_tests), grind (arith, nat_tests))

name_bounds : (byte : ℕ) → is_name_byte byte ≡ true → (33 ≤ byte) × (byte ≤ 126)
name_bounds byte later = (grind (arith, nat_tests), grind (arith, nat_tests))

digit_plain : IsPlain (λ byte. is_digit byte 16)
digit_plain = record { mark = refl; printing = digit_bounds }

start_plain : IsPlain is_name_start
start_plain = record { mark = refl; printing = start_bounds }

later_plain : IsPlain is_name_byte
later_plain = record { mark = refl; printing = name_bounds }

plain_word : (word : List ℕ) → 0 < length word → list_all is_word_byte word ≡ true → is_word word ≡ true
plain_word word some all = rw (lt-ltb 0 (length word) some, all) refl

word_bytes : (n : ℕ) → list_all is_word_byte (word_text n) ≡ true
unfolding word_text
word_bytes n = hex_words 8 n

word_some : (n : ℕ) → 0 < length (word_text n)
unfolding word_text
word_some n = let size = hex_length 8 n in omega arith

-- more bytes behind those of a word
longer_plain : (word more : List ℕ) → 0 < length word → list_all is_word_byte word ≡ true → list_all is_word_byte more ≡ true → is_word (word ++ more) ≡ true
longer_plain word more some front back =
    let sum = length-append word more in
    plain_word (word ++ more) (omega (arith, sum)) (list_all-append is_word_byte word more ∙ rw (front, back) refl)

pub address_plain : (n : ℕ) → is_word (address_text n) ≡ true
unfolding address_text
address_plain n =
    let P : Bool → Type 0 = λ b. is_word (cond b (word_text n) (word_text (n / 2 ^ 32) ++ 58 ∷ word_text (n % 2 ^ 32))) ≡ true in
    elim (ltb n (2 ^ 32)) as P [
      | true ↦ eight_word n
      | false ↦ longer_plain (word_text (n / 2 ^ 32)) (58 ∷ word_text (n % 2 ^ 32)) (word_some (n / 2 ^ 32)) (word_bytes (n / 2 ^ 32)) (rw (word_bytes (n % 2 ^ 32)) refl)
    ]

pub phase_plain : (phase : Phase) → is_word (phase_text phase) ≡ true
unfolding phase_text
phase_plain phase =
    let bits = phase.enables % 16 in
    let digit = plain_by (λ byte. is_digit byte 16) digit_plain (digit_glyph false bits) (glyph_is_digit bits (omega arith)) in
    let P : Bool → Type 0 = λ b. list_all is_word_byte (cond b [] (47 ∷ digit_glyph false bits ∷ [])) ≡ true in
    let enables : list_all is_word_byte (enables_text bits) ≡ true = elim (eqb bits 15) as P [ true ↦ refl | false ↦ rw digit refl ] in
    longer_plain (word_text phase.value) (enables_text bits) (word_some phase.value) (word_bytes phase.value) enables

name_plain : (name : List ℕ) → is_name name ≡ true → is_word name ≡ true
name_plain [] named = absurd (let apart : false ≡ true = named in cc)
name_plain (byte ∷ name) named =
    let first : is_name_start byte ≡ true = grind arith in
    let others : list_all is_name_byte name ≡ true = grind arith in
    plain_word (byte ∷ name) (omega arith) (rw (plain_by is_name_start start_plain byte first, all_plain_by is_name_byte later_plain name others) refl)

pub target_plain : (target : Target) → TargetFits target → target.device ≤ 31 → list_all is_word (target_line target) ≡ true
target_plain target fits few =
    let of_bus = fits.bus in
    rw (name_plain target.name fits.name, decimal_word target.bus (omega arith), decimal_word target.device (omega arith)) refl

pub master_plain : (master : Master) → MasterFits master → list_all is_word (master_line master) ≡ true
master_plain master fits =
    let of_bus = fits.bus in
    rw (name_plain master.name fits.name, decimal_word master.bus (omega arith)) refl

space_plain : (space : Space) → is_word (space_word space) ≡ true
space_plain Mem = refl
space_plain Io = refl
space_plain Cfg = refl

command_plain : (command : Command) → is_word (command_word command) ≡ true
command_plain IoRead = refl
command_plain IoWrite = refl
command_plain MemRead = refl
command_plain MemWrite = refl
command_plain ConfigurationRead = refl
command_plain ConfigurationWrite = refl
command_plain MemReadMultiple = refl
command_plain MemReadLine = refl
command_plain MemWriteInvalidate = refl

poll_plain : (space : Space) (differs : Bool) → is_word (poll_word space differs) ≡ true
poll_plain Mem false = refl
poll_plain Mem true = refl
poll_plain Io false = refl
poll_plain Io true = refl
poll_plain Cfg false = refl
poll_plain Cfg true = refl

pub range_plain : (word : List ℕ) (range : Range) → is_word word ≡ true → list_all is_word (range_line word range) ≡ true
range_plain word range plain = rw (plain, space_plain range.space, address_plain range.base, address_plain range.size) refl

pub opening_plain : (opening : Opening) → list_all is_word (opening_line opening) ≡ true
opening_plain opening = rw (space_plain opening.space, address_plain opening.address, eight_word opening.value) refl

phases_plain : (phases : List Phase) → list_all is_word (map phase_text phases) ≡ true
phases_plain [] = refl
phases_plain (phase ∷ phases) = rw (phase_plain phase, phases_plain phases) refl

-- numbers of an operation that are printed as decimals
abbrev pub DecimalsFit : Op → Type 0
DecimalsFit (Read command address) = Unit {0}
DecimalsFit (Write command address phases) = Unit {0}
DecimalsFit (CfgRead bus device register) = (bus < 2 ^ 32) × (device < 2 ^ 32) × (register < 2 ^ 32)
DecimalsFit (CfgWrite bus device register phase) = (bus < 2 ^ 32) × (device < 2 ^ 32) × (register < 2 ^ 32)
DecimalsFit (Poll space address want tries) = tries < 2 ^ 32

pub op_plain : (op : Op) → DecimalsFit op → list_all is_word (op_line op) ≡ true
op_plain (Read command address) fits = rw (command_plain command, address_plain address) refl
op_plain (Write command address phases) fits = rw (command_plain command, address_plain address, phases_plain phases) refl
op_plain (CfgRead bus device register) fits = rw (decimal_word bus fits.0, decimal_word device fits.1, decimal_word register fits.2) refl
op_plain (CfgWrite bus device register phase) fits = rw (decimal_word bus fits.0, decimal_word device fits.1, decimal_word register fits.2, phase_plain phase) refl
op_plain (Poll space address want tries) fits = rw (poll_plain space want.differs, address_plain address, eight_word want.mask, eight_word want.wanted, decimal_word tries fits) refl

direction_plain : (up : Bool) → is_word (direction_word up) ≡ true
direction_plain true = refl
direction_plain false = refl

pub plan_plain : (word : List ℕ) (planned : Planned) → is_word word ≡ true → planned.bus < 2 ^ 32 → planned.count < 2 ^ 32 → list_all is_word (planned_line word planned) ≡ true
plan_plain word planned plain of_bus of_count = rw (plain, decimal_word planned.bus of_bus, direction_plain planned.up, decimal_word planned.count of_count) refl

window_plain : (word : List ℕ) (frame : Option Window) → is_word word ≡ true → list_all is_word (window_words word frame) ≡ true
window_plain word None plain = refl
window_plain word (Some it) plain = rw (plain, address_plain it.base, address_plain it.limit) refl

depth_plain : (word : List ℕ) (n : ℕ) → is_word word ≡ true → n < 2 ^ 32 → list_all is_word (depth_words word n) ≡ true
depth_plain word n plain below =
    let P : Bool → Type 0 = λ b. list_all is_word (cond b [] (word ∷ decimal n ∷ [])) ≡ true in
    elim (eqb n 4) as P [ true ↦ refl | false ↦ rw (plain, decimal_word n below) refl ]

mode_plain : (mode : Bool) → list_all is_word (mode_words mode) ≡ true
mode_plain true = refl
mode_plain false = refl

join_plain : (words more : List (List ℕ)) → list_all is_word words ≡ true → list_all is_word more ≡ true → list_all is_word (words ++ more) ≡ true
join_plain words more front back = list_all-append is_word words more ∙ rw (front, back) refl

pub bridge_plain : (bridge : Bridge) → BridgeFits bridge → bridge.device ≤ 31 → bridge.posted ≤ most_posted → bridge.delayed ≤ most_delayed → list_all is_word (bridge_line bridge) ≡ true
bridge_plain bridge fits of_device of_posted of_delayed =
    let of_bus = fits.bus in
    let of_parent = fits.parent in
    let of_last = fits.last in
    let options : list_all is_word (option_words bridge) ≡ true =
    join_plain (window_words (codes "mem") bridge.mem) _ (window_plain (codes "mem") bridge.mem refl)
    (join_plain (window_words (codes "pref") bridge.pref) _ (window_plain (codes "pref") bridge.pref refl)
    (join_plain (window_words (codes "io") bridge.io) _ (window_plain (codes "io") bridge.io refl)
    (join_plain (depth_words (codes "posted") bridge.posted) _ (depth_plain (codes "posted") bridge.posted refl (omega arith))
    (join_plain (depth_words (codes "delayed") bridge.delayed) _ (depth_plain (codes "delayed") bridge.delayed refl (omega arith)) (mode_plain bridge.mode))))) in
    rw (decimal_word bridge.bus (omega arith), decimal_word bridge.parent (omega arith), decimal_word bridge.device (omega arith), decimal_word bridge.last (omega arith), options) refl
