-- The lines of targets as they are printed are read as what they say.
use Rattle.std.proofs.Common.{◌≡◌, ℕ, ◌^◌, ◌<◌, ◌≤◌, Bool, true, false, ◌&&◌, ◌||◌, List, [], ◌∷◌, Result, Ok, arith, refl}
use Rattle.std.specs.Prelude.{codes}
use Rattle.std.specs.Fmt.{decimal}
use Rattle.std.proofs.lemmas.Bool.{lt-ltb}
use Rattle.std.proofs.lemmas.Bool.Decides.{nat_tests}
use Rattle.pci_command.specs.declared.command.Space.{Space}
use Rattle.pci_command.specs.declared.command.Space.TheVariants.{Mem, Io, Cfg}
use Rattle.board_model.specs.Limits.{most_dwords}
use Rattle.board_model.specs.declared.agents.Range.{Range}
use Rattle.board_model.specs.declared.agents.Opening.{Opening}
use Rattle.board_model.specs.declared.agents.Target.{Target}
use Rattle.board_model.specs.WellFormed.{is_well_formed_target, is_range_in, is_dword_in, is_well_formed_range, is_well_formed_opening}
use Rattle.board_printer.specs.Numbers.{half_text, word_text, address_text}
use Rattle.board_printer.specs.Spaces.{space_word}
use Rattle.board_printer.specs.Targets.{target_line, range_line, opening_line}
use Rattle.board_printer.specs.Boards.{is_short, is_short_range}
use Rattle.text_faults.specs.declared.board_line.LineFault.{LineFault}
use Rattle.board_statements.specs.declared.statement.Statement.TheVariants.{NewTarget, Identifies, Stalls, Bursts, Claims, Aborts, Opens}
use Rattle.board_statements.specs.Words.{hex_of, fixed_of, name_of, long_of}
use Rattle.board_statements.specs.Keywords.{line_form}
use Rattle.board_statements.specs.Targets.{space_of_word, target_form, id_form, stall_form, burst_form, range_form, claim_form, abort_form, opening_form}
use Rattle.board_statements.specs.Statements.{behind_word, statement_form, statement_of}
use Rattle.board_model.specs.Fits.{TargetFits, RangeFits, OpeningFits}
use Rattle.board_roundtrip.proofs.lines.NumberTexts.{number, decimal_is_read}
use Rattle.board_roundtrip.proofs.lines.PartTexts.{word_is_read, half_is_read, address_is_read}

pub target_is_read : (wide : Bool) (target : Target) → TargetFits target → is_well_formed_target target ≡ true → statement_of wide (target_line target) ≡ Ok (NewTarget target.name target.bus target.device)
unfolding statement_of statement_form behind_word line_form target_form fixed_of name_of
target_is_read wide target fits formed =
    let few : target.device ≤ 31 = grind (arith, nat_tests) in
    let bus = decimal_is_read 0 255 target.bus (omega arith) (let below = fits.bus in omega arith) (omega arith) in
    let device = decimal_is_read 0 31 target.device (omega arith) few (omega arith) in
    rw (fits.name, bus, device) refl

pub id_is_read : (wide : Bool) (vendor model : ℕ) → vendor < 2 ^ 16 → model < 2 ^ 16 → statement_of wide (codes "id" ∷ half_text vendor ∷ half_text model ∷ []) ≡ Ok (Identifies vendor model)
unfolding statement_of statement_form behind_word line_form id_form
id_is_read wide vendor model of_vendor of_model = rw (half_is_read vendor of_vendor, half_is_read model of_model) refl

pub stall_is_read : (wide : Bool) (tokens : ℕ) → tokens ≤ 1000000 → statement_of wide (codes "stall" ∷ decimal tokens ∷ []) ≡ Ok (Stalls tokens)
unfolding statement_of statement_form behind_word line_form stall_form
stall_is_read wide tokens few = rw (decimal_is_read 0 1000000 tokens (omega arith) few (omega arith)) refl

pub burst_is_read : (wide : Bool) (phases : ℕ) → 1 ≤ phases → phases ≤ most_dwords → statement_of wide (codes "burst" ∷ decimal phases ∷ []) ≡ Ok (Bursts phases)
unfolding statement_of statement_form behind_word line_form burst_form
burst_is_read wide phases some few = rw (decimal_is_read 1 most_dwords phases some few (omega arith)) refl

-- a word that may be long where the whole may
pub first_may : (wide a b : Bool) → (wide || (a && b)) ≡ true → (wide || a) ≡ true
first_may true a b may = refl
first_may false true b may = refl
first_may false false b may = may

pub second_may : (wide a b : Bool) → (wide || (a && b)) ≡ true → (wide || b) ≡ true
second_may true a b may = refl
second_may false true b may = may
second_may false false b may = absurd (let apart : false ≡ true = may in cc)

pub port_is_read : (n : ℕ) → n < 2 ^ 32 → long_of false (address_text n) ≡ number n
port_is_read n below = address_is_read false n (omega arith) (lt-ltb _ _ below)

pub port_hex_is_read : (n : ℕ) → n < 2 ^ 32 → hex_of 8 (address_text n) ≡ number n
unfolding address_text
port_hex_is_read n below = rw (lt-ltb n (2 ^ 32) below) (word_is_read n below)

abbrev range_so : Range → Result (Range × List (List ℕ)) LineFault
range_so range = Ok (range, [])

parts_are_read : (wide : Bool) (space : Space) (base size : ℕ) → base < 2 ^ 64 → size < 2 ^ 64 → is_range_in space (record { space = space; base = base; size = size }) ≡ true
    → (wide || is_short base) ≡ true → (wide || is_short size) ≡ true → range_form wide (space_word space ∷ address_text base ∷ address_text size ∷ []) ≡ range_so (record { space = space; base = base; size = size })
unfolding range_form space_of_word
parts_are_read wide Mem base size of_base of_size formed may_base may_size = rw (address_is_read wide base of_base may_base, address_is_read wide size of_size may_size) refl
parts_are_read wide Io base size of_base of_size formed may_base may_size =
    let below : base < 2 ^ 32 = grind (arith, nat_tests) in
    let few : size < 2 ^ 32 = grind (arith, nat_tests) in
    rw (port_is_read base below, port_is_read size few) refl
parts_are_read wide Cfg base size of_base of_size formed may_base may_size = absurd (let apart : false ≡ true = formed in cc)

range_is_read : (wide : Bool) (range : Range) → RangeFits range → is_well_formed_range range ≡ true → (wide || is_short_range range) ≡ true
    → range_form wide (space_word range.space ∷ address_text range.base ∷ address_text range.size ∷ []) ≡ range_so range
range_is_read wide range fits formed may =
    let rest = second_may wide (is_short range.base) _ may in
    parts_are_read wide range.space range.base range.size fits.base fits.size formed (first_may wide (is_short range.base) _ may) (first_may wide (is_short range.size) _ rest)

pub claim_is_read : (wide : Bool) (range : Range) → RangeFits range → is_well_formed_range range ≡ true → (wide || is_short_range range) ≡ true
    → statement_of wide (range_line (codes "range") range) ≡ Ok (Claims range)
unfolding statement_of statement_form behind_word line_form claim_form
claim_is_read wide range fits formed may = rw (range_is_read wide range fits formed may) refl

pub abort_is_read : (wide : Bool) (range : Range) → RangeFits range → is_well_formed_range range ≡ true → (wide || is_short_range range) ≡ true
    → statement_of wide (range_line (codes "abort") range) ≡ Ok (Aborts range)
unfolding statement_of statement_form behind_word line_form abort_form
abort_is_read wide range fits formed may = rw (range_is_read wide range fits formed may) refl

opening_parts : (wide : Bool) (space : Space) (address value : ℕ) → address < 2 ^ 64 → value < 2 ^ 32 → is_dword_in space address ≡ true → (wide || is_short address) ≡ true
    → statement_of wide (codes "word" ∷ space_word space ∷ address_text address ∷ word_text value ∷ []) ≡ Ok (Opens (record { space = space; address = address; value = value }))
unfolding statement_of statement_form behind_word line_form opening_form space_of_word
opening_parts wide Mem address value of_address of_value formed may = rw (address_is_read wide address of_address may, word_is_read value of_value) refl
opening_parts wide Io address value of_address of_value formed may =
    let below : address < 2 ^ 32 = grind (arith, nat_tests) in
    rw (port_is_read address below, word_is_read value of_value) refl
opening_parts wide Cfg address value of_address of_value formed may = absurd (let apart : false ≡ true = formed in cc)

pub opening_is_read : (wide : Bool) (opening : Opening) → OpeningFits opening → is_well_formed_opening opening ≡ true → (wide || is_short opening.address) ≡ true
    → statement_of wide (opening_line opening) ≡ Ok (Opens opening)
opening_is_read wide opening fits formed may = opening_parts wide opening.space opening.address opening.value fits.address fits.value formed may
