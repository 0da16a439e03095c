-- The canonical text of a well-formed board is read as that board.
use Rattle.std.proofs.Common.{◌≡◌, ℕ, ◌+◌, Bool, true, false, cond, ltb, not, ◌||◌, List, [], ◌∷◌, ◌++◌, length, map, Option, Some, None, Result, Ok, refl, sym, ap, ◌∙◌, arith}
use Rattle.std.specs.Prelude.{codes}
use Rattle.std.specs.List.{list_all, flat_map}
use Rattle.std.proofs.lemmas.Bool.{lt-ltb}
use Rattle.std.proofs.lemmas.List.{append-nil}
use Rattle.board_model.specs.declared.board.Board.{Board}
use Rattle.board_model.specs.WellFormed.{is_well_formed, IsWellFormed}
use Rattle.board_text.specs.Lines.{line_fault, lines_of}
use Rattle.board_text.specs.Tokens.{words_of}
use Rattle.board_printer.specs.Lines.{Line, text_of}
use Rattle.board_printer.specs.Bridges.{bridge_line}
use Rattle.board_printer.specs.Targets.{target_lines}
use Rattle.board_printer.specs.Masters.{master_lines}
use Rattle.board_printer.specs.Boards.{is_short_bridge, is_short_target, is_short_board, first_line, planned_line, board_text}
use Rattle.board_roundtrip.specs.words.Printed.{joined}
use Rattle.text_faults.specs.declared.board_line.LineFault.{LineFault}
use Rattle.board_statements.specs.Statements.{first_line_of}
use Rattle.board_roundtrip.proofs.lines.TargetTexts.{first_may, second_may}
use Rattle.board_roundtrip.proofs.lines.Laws.{first_law, first_allowed}
use Rattle.board_parser.specs.declared.draft.draft.Draft.{Draft}
use Rattle.board_parser.specs.draft.Drafts.{first_draft}
use Rattle.board_parser.specs.OneLine.{begin, read_words, read_more, read_unless, read_line}
use Rattle.board_parser.specs.Boards.{then_lines, read_lines, ended, board_read}
use Rattle.board_model.specs.Fits.{BoardFits}
use Rattle.board_roundtrip.proofs.LeadLemmas.{Leads, leads-append, leads-each, leads-map, behind_first}
use Rattle.board_roundtrip.proofs.StateLemmas.{so_far, Of}
use Rattle.board_roundtrip.proofs.BridgeSteps.{bridge_step}
use Rattle.board_roundtrip.proofs.TargetSteps.{target_step}
use Rattle.board_roundtrip.proofs.MasterSteps.{master_step}
use Rattle.board_roundtrip.proofs.PlanSteps.{discard_step, drop_step}
use Rattle.board_roundtrip.proofs.words.Laws.{line_is}
use Rattle.board_model.proofs.Laws.{WellFormed-parts}

-- the lines behind the first
abbrev lines_behind : Board → List Line
lines_behind board =
    map bridge_line board.bridges
    ++ (flat_map target_lines board.targets
    ++ (flat_map master_lines board.masters
    ++ (map (planned_line (codes "discard")) board.discards
    ++ map (planned_line (codes "drop")) board.drops)))

-- a text may be long, or its board is short
may_be_long : (short : Bool) → (not short || short) ≡ true
may_be_long true = refl
may_be_long false = refl

board_leads : (wide : Bool) (board : Board) → BoardFits board → IsWellFormed board → (wide || is_short_board board) ≡ true → Leads (Of wide (so_far [] [] [] [] [])) (lines_behind board) (Of wide board)
board_leads wide board fits parts may =
    let may_bridges = first_may wide (list_all is_short_bridge board.bridges) _ may in
    let others = second_may wide (list_all is_short_bridge board.bridges) _ may in
    let may_targets = first_may wide (list_all is_short_target board.targets) _ others in
    let may_masters = second_may wide (list_all is_short_target board.targets) _ others in
    let p0 = Of wide (so_far [] [] [] [] []) in
    let p1 = Of wide (so_far board.bridges [] [] [] []) in
    let p2 = Of wide (so_far board.bridges board.targets [] [] []) in
    let p3 = Of wide (so_far board.bridges board.targets board.masters [] []) in
    let p4 = Of wide (so_far board.bridges board.targets board.masters board.discards []) in
    let p5 = Of wide board in
    let targets = flat_map target_lines board.targets in
    let masters = flat_map master_lines board.masters in
    let discards = map (planned_line (codes "discard")) board.discards in
    let drops = map (planned_line (codes "drop")) board.drops in
    let from_discards = leads-append p3 p4 p5 discards drops
    (leads-map (planned_line (codes "discard")) (λ done. Of wide (so_far board.bridges board.targets board.masters done [])) board.discards (discard_step wide board parts fits.discards))
    (leads-map (planned_line (codes "drop")) (λ done. Of wide (so_far board.bridges board.targets board.masters board.discards done)) board.drops (drop_step wide board parts fits.drops)) in
    let from_masters = leads-append p2 p3 p5 masters (discards ++ drops)
    (leads-each master_lines (λ done. Of wide (so_far board.bridges board.targets done [] [])) board.masters (master_step wide board parts fits.masters may_masters)) from_discards in
    let from_targets = leads-append p1 p2 p5 targets (masters ++ (discards ++ drops))
    (leads-each target_lines (λ done. Of wide (so_far board.bridges done [] [] [])) board.targets (target_step wide board parts fits.targets may_targets)) from_masters in
    leads-append p0 p1 p5 (map bridge_line board.bridges) (targets ++ (masters ++ (discards ++ drops)))
    (leads-map bridge_line (λ done. Of wide (so_far done [] [] [] [])) board.bridges (bridge_step wide board parts fits.bridges may_bridges)) from_targets

-- The first line.

abbrev told_so : Bool → Option Bool
told_so wide = Some wide

has_words : (words : Line) (wide : Bool) → first_line_of words ≡ told_so wide → ltb 0 (length words) ≡ true
unfolding first_line_of
has_words [] wide told = absurd (cc)
has_words (word ∷ words) wide told = lt-ltb _ _ (omega arith)

begun : (bytes : List ℕ) (wide : Bool) → line_fault bytes ≡ None → first_line_of (words_of bytes) ≡ told_so wide → read_line None bytes ≡ Ok (Some (first_draft wide))
begun bytes wide none told =
    let words = words_of bytes in
    let one : read_line None bytes ≡ read_more None words = ap (λ (fault : Option LineFault). read_unless fault None bytes) none in
    let two : read_more None words ≡ read_words None words = ap (λ (b : Bool). cond b (read_words None words) (Ok None)) (has_words words wide told) in
    one ∙ two ∙ ap begin told

abbrev board_so : Board → Result Board (ℕ × LineFault)
board_so board = Ok board

pub board_law : (board : Board) → BoardFits board → is_well_formed board ≡ true → board_read (board_text board) ≡ board_so board
unfolding board_text
board_law board fits formed =
    let wide = not (is_short_board board) in
    let first = first_line board in
    let behind = lines_behind board in
    let none = first_allowed board (joined first) (line_is first) in
    let begins = begun (joined first) wide none (first_law board (joined first) (line_is first)) in
    let lines : lines_of (text_of (first ∷ behind)) ≡ joined first ∷ lines_of (text_of behind ++ []) =
    ap lines_of (sym (append-nil (text_of (first ∷ behind)))) ∙ behind_first first behind [] none in
    let there = board_leads wide board fits (WellFormed-parts board formed) (may_be_long (is_short_board board)) (first_draft wide) (record { width = refl; is = refl }) (1 + 1) [] in
    let reading : read_lines None 1 (lines_of (text_of (first ∷ behind))) ≡ Ok (Some there.draft) =
    ap (read_lines None 1) lines
    ∙ ap (λ (r : Result (Option Draft) LineFault). then_lines 1 r (λ next. read_lines next (1 + 1) (lines_of (text_of behind ++ [])))) begins
    ∙ there.is in
    ap ended reading ∙ ap board_so there.holds.is
