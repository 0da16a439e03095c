-- The laws, each from what its words are read as and from its words being plain.
use Rattle.std.proofs.Common.{◌≡◌, ℕ, ◌^◌, ◌<◌, ◌≤◌, Bool, true, false, not, cond, ◌||◌, List, [], ◌∷◌, ◌++◌, length, Option, Some, None, Result, Ok, arith, refl, ap, ◌∙◌}
use Rattle.std.specs.Prelude.{codes}
use Rattle.std.specs.List.{list_all}
use Rattle.std.specs.Fmt.{decimal}
use Rattle.std.proofs.lemmas.Bool.Decides.{nat_tests}
use Rattle.board_text.specs.Lines.{line_fault}
use Rattle.board_text.specs.Tokens.{words_of}
use Rattle.board_model.specs.Limits.{most_dwords}
use Rattle.board_model.specs.declared.bridge.Bridge.{Bridge}
use Rattle.board_model.specs.declared.agents.Range.{Range}
use Rattle.board_model.specs.declared.agents.Opening.{Opening}
use Rattle.board_model.specs.declared.agents.Target.{Target}
use Rattle.board_model.specs.declared.agents.Master.{Master}
use Rattle.board_model.specs.declared.op.Op.{Op}
use Rattle.board_model.specs.declared.op.Op.TheVariants.{Read, Write, CfgRead, CfgWrite, Poll}
use Rattle.board_model.specs.declared.board.Board.{Board}
use Rattle.board_model.specs.declared.board.Planned.{Planned}
use Rattle.board_model.specs.WellFormed.{is_well_formed_bridge, is_well_formed_target, is_well_formed_range, is_well_formed_opening, is_well_formed_op, is_well_formed_plan}
use Rattle.board_printer.specs.Lines.{Line, line_text}
use Rattle.board_printer.specs.Numbers.{half_text}
use Rattle.board_printer.specs.Bridges.{bridge_line}
use Rattle.board_printer.specs.Targets.{target_line, range_line, opening_line}
use Rattle.board_printer.specs.Masters.{master_line, op_line}
use Rattle.board_printer.specs.Boards.{is_short, is_short_bridge, is_short_range, is_short_op, is_short_board, planned_line, first_line}
use Rattle.text_faults.specs.declared.board_line.LineFault.{LineFault}
use Rattle.board_statements.specs.declared.statement.Statement.{Statement}
use Rattle.board_statements.specs.declared.statement.Statement.TheVariants.{NewBridge, NewTarget, Identifies, Stalls, Bursts, Claims, Aborts, Opens, NewMaster, Does, Discards, Drops}
use Rattle.board_statements.specs.Statements.{statement_of, first_line_of}
use Rattle.board_model.specs.Fits.{BridgeFits, TargetFits, MasterFits, RangeFits, OpeningFits, OpFits, PlannedFits}
use Rattle.board_roundtrip.specs.words.Printed.{is_word}
use Rattle.board_roundtrip.specs.lines.ReadsAs.{IsReadAs}
use Rattle.board_roundtrip.proofs.lines.BridgeTexts.{bridge_is_read}
use Rattle.board_roundtrip.proofs.lines.TargetTexts.{target_is_read, id_is_read, stall_is_read, burst_is_read, claim_is_read, abort_is_read, opening_is_read}
use Rattle.board_roundtrip.proofs.lines.MasterTexts.{master_is_read, op_is_read, discard_is_read, drop_is_read}
use Rattle.board_roundtrip.proofs.lines.WordTexts.{words_are_read}
use Rattle.board_roundtrip.proofs.lines.AllowedTexts.{width, line_is_allowed}
use Rattle.board_roundtrip.proofs.lines.WidthTexts.{decimal_width, half_width, target_width, master_width, range_width, opening_width, op_width, plan_width, bridge_width}
use Rattle.board_roundtrip.proofs.lines.PlainTexts.{DecimalsFit, target_plain, master_plain, range_plain, opening_plain, op_plain, plan_plain, bridge_plain}
use Rattle.board_roundtrip.proofs.words.Laws.{four_word, decimal_word}
use Rattle.board_model.proofs.Laws.{Bridge-parts, Target-parts}

abbrev statement_so : Statement → Result Statement LineFault
statement_so statement = Ok statement

reads_as : (wide : Bool) (words : Line) (statement : Statement) → list_all is_word words ≡ true → width words ≤ 257 → statement_of wide words ≡ statement_so statement → IsReadAs wide words statement
reads_as wide words statement plain short read = record {
  words = read;
  text = λ line printed. ap (statement_of wide) (words_are_read words line plain printed) ∙ read;
  allowed = λ line printed. line_is_allowed words line plain short printed;
}

pub bridge_law : (wide : Bool) (bridge : Bridge) → BridgeFits bridge → is_well_formed_bridge bridge ≡ true → (wide || is_short_bridge bridge) ≡ true → IsReadAs wide (bridge_line bridge) (NewBridge bridge)
bridge_law wide bridge fits formed may =
    let it = Bridge-parts bridge formed in
    reads_as wide (bridge_line bridge) (NewBridge bridge) (bridge_plain bridge fits it.device it.posted.to it.delayed.to) (bridge_width bridge fits it.device it.posted.to it.delayed.to) (bridge_is_read wide bridge fits formed may)

pub target_law : (wide : Bool) (target : Target) → TargetFits target → is_well_formed_target target ≡ true → IsReadAs wide (target_line target) (NewTarget target.name target.bus target.device)
target_law wide target fits formed =
    let few = (Target-parts target formed).device in
    reads_as wide (target_line target) (NewTarget target.name target.bus target.device) (target_plain target fits few) (target_width target fits few) (target_is_read wide target fits formed)

pub id_law : (wide : Bool) (vendor model : ℕ) → vendor < 2 ^ 16 → model < 2 ^ 16 → IsReadAs wide (codes "id" ∷ half_text vendor ∷ half_text model ∷ []) (Identifies vendor model)
id_law wide vendor model of_vendor of_model =
    reads_as wide (codes "id" ∷ half_text vendor ∷ half_text model ∷ []) (Identifies vendor model) (rw (four_word vendor, four_word model) refl) (let a = half_width vendor in let b = half_width model in omega (arith, a, b)) (id_is_read wide vendor model of_vendor of_model)

pub stall_law : (wide : Bool) (tokens : ℕ) → tokens ≤ 1000000 → IsReadAs wide (codes "stall" ∷ decimal tokens ∷ []) (Stalls tokens)
stall_law wide tokens few = reads_as wide (codes "stall" ∷ decimal tokens ∷ []) (Stalls tokens) (rw (decimal_word tokens (omega arith)) refl) (let a = decimal_width tokens (omega arith) in omega (arith, a)) (stall_is_read wide tokens few)

pub burst_law : (wide : Bool) (phases : ℕ) → 1 ≤ phases → phases ≤ most_dwords → IsReadAs wide (codes "burst" ∷ decimal phases ∷ []) (Bursts phases)
burst_law wide phases some few = reads_as wide (codes "burst" ∷ decimal phases ∷ []) (Bursts phases) (rw (decimal_word phases (omega arith)) refl) (let a = decimal_width phases (omega arith) in omega (arith, a)) (burst_is_read wide phases some few)

pub claim_law : (wide : Bool) (range : Range) → RangeFits range → is_well_formed_range range ≡ true → (wide || is_short_range range) ≡ true → IsReadAs wide (range_line (codes "range") range) (Claims range)
claim_law wide range fits formed may = reads_as wide (range_line (codes "range") range) (Claims range) (range_plain (codes "range") range refl) (range_width (codes "range") range (omega arith)) (claim_is_read wide range fits formed may)

pub abort_law : (wide : Bool) (range : Range) → RangeFits range → is_well_formed_range range ≡ true → (wide || is_short_range range) ≡ true → IsReadAs wide (range_line (codes "abort") range) (Aborts range)
abort_law wide range fits formed may = reads_as wide (range_line (codes "abort") range) (Aborts range) (range_plain (codes "abort") range refl) (range_width (codes "abort") range (omega arith)) (abort_is_read wide range fits formed may)

pub opening_law : (wide : Bool) (opening : Opening) → OpeningFits opening → is_well_formed_opening opening ≡ true → (wide || is_short opening.address) ≡ true → IsReadAs wide (opening_line opening) (Opens opening)
opening_law wide opening fits formed may = reads_as wide (opening_line opening) (Opens opening) (opening_plain opening) (opening_width opening) (opening_is_read wide opening fits formed may)

pub master_law : (wide : Bool) (master : Master) → MasterFits master → IsReadAs wide (master_line master) (NewMaster master.name master.bus)
master_law wide master fits = reads_as wide (master_line master) (NewMaster master.name master.bus) (master_plain master fits) (master_width master fits) (master_is_read wide master fits)

decimals_fit : (op : Op) → OpFits op → is_well_formed_op op ≡ true → DecimalsFit op
decimals_fit (Read command address) fits formed = tt
decimals_fit (Write command address phases) fits formed = tt
decimals_fit (CfgRead bus device register) fits formed = (omega arith, grind (arith, nat_tests), grind (arith, nat_tests))
decimals_fit (CfgWrite bus device register phase) fits formed = (let below = fits.0 in omega arith, grind (arith, nat_tests), grind (arith, nat_tests))
decimals_fit (Poll space address want tries) fits formed = grind (arith, nat_tests)

pub op_law : (wide : Bool) (op : Op) → OpFits op → is_well_formed_op op ≡ true → (wide || is_short_op op) ≡ true → IsReadAs wide (op_line op) (Does op false)
op_law wide op fits formed may = reads_as wide (op_line op) (Does op false) (op_plain op (decimals_fit op fits formed)) (op_width op (decimals_fit op fits formed) formed) (op_is_read wide op fits formed may)

plan_of : (word : List ℕ) (planned : Planned) → is_word word ≡ true → PlannedFits planned → is_well_formed_plan planned ≡ true → list_all is_word (planned_line word planned) ≡ true
plan_of word planned plain fits formed =
    let few : planned.count ≤ 1000000 = grind (arith, nat_tests) in
    plan_plain word planned plain (omega arith) (omega arith)

plan_long : (word : List ℕ) (planned : Planned) → length word ≤ 7 → PlannedFits planned → is_well_formed_plan planned ≡ true → width (planned_line word planned) ≤ 257
plan_long word planned short fits formed =
    let few : planned.count ≤ 1000000 = grind (arith, nat_tests) in
    plan_width word planned short (omega arith) (omega arith)

pub discard_law : (wide : Bool) (planned : Planned) → PlannedFits planned → is_well_formed_plan planned ≡ true → IsReadAs wide (planned_line (codes "discard") planned) (Discards planned)
discard_law wide planned fits formed = reads_as wide (planned_line (codes "discard") planned) (Discards planned) (plan_of (codes "discard") planned refl fits formed) (plan_long (codes "discard") planned (omega arith) fits formed) (discard_is_read wide planned fits formed)

pub drop_law : (wide : Bool) (planned : Planned) → PlannedFits planned → is_well_formed_plan planned ≡ true → IsReadAs wide (planned_line (codes "drop") planned) (Drops planned)
drop_law wide planned fits formed = reads_as wide (planned_line (codes "drop") planned) (Drops planned) (plan_of (codes "drop") planned refl fits formed) (plan_long (codes "drop") planned (omega arith) fits formed) (drop_is_read wide planned fits formed)

-- the first line tells whether the text is wide
abbrev told_so : Bool → Option Bool
told_so wide = Some wide

version_words : (short : Bool) → (list_all is_word (codes "pciboard" ∷ (cond short (codes "1") (codes "2")) ∷ []) ≡ true) × (first_line_of (codes "pciboard" ∷ (cond short (codes "1") (codes "2")) ∷ []) ≡ told_so (not short)) × (width (codes "pciboard" ∷ (cond short (codes "1") (codes "2")) ∷ []) ≤ 257)
unfolding first_line_of
version_words true = (refl, refl, omega arith)
version_words false = (refl, refl, omega arith)

pub first_law : (board : Board) (line : List ℕ) → line_text (first_line board) ≡ line ++ 10 ∷ [] → first_line_of (words_of line) ≡ told_so (not (is_short_board board))
first_law board line printed =
    let it = version_words (is_short_board board) in
    ap first_line_of (words_are_read (first_line board) line it.0 printed) ∙ it.1

pub first_allowed : (board : Board) (line : List ℕ) → line_text (first_line board) ≡ line ++ 10 ∷ [] → line_fault line ≡ None
first_allowed board line printed =
    let it = version_words (is_short_board board) in
    line_is_allowed (first_line board) line it.0 it.2 printed
