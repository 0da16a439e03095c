-- The parts of a device text make up what it reads as.
use Rattle.std.proofs.Common.{◌≡◌, ℕ, ◌+◌, Bool, cond, List, [], length, drop, Option, Some, None, Result, Ok, Err, sym, ap, ◌∙◌}
use Rattle.std.specs.List.{slice_range}
use Rattle.board_text.specs.Lines.{lines_of}
use Rattle.text_faults.specs.declared.board_line.LineFault.{LineFault}
use Rattle.board_parser.specs.declared.draft.draft.Draft.{Draft}
use Rattle.board_parser.specs.draft.Drafts.{board_of}
use Rattle.board_parser.specs.Boards.{read_lines, sheet_ended, sheet_read}
use Rattle.text_faults.specs.declared.device.DeviceFault.TheVariants.{Misshapen}
use Rattle.dma_agents.specs.declared.fault.MakeFault.{MakeFault}
use Rattle.dma_agents.specs.declared.fault.MakeFault.TheVariants.{Board as OfBoard, Device as OfLine}
use Rattle.dma_agents.specs.declared.line.DeviceOwner.TheVariants.{Nobody}
use Rattle.dma_agents.specs.declared.line.Waiting.{Waiting}
use Rattle.dma_agents.specs.declared.making.Making.{Making}
use Rattle.dma_agents.specs.declared.parts.DevicesLine.{DevicesLine}
use Rattle.dma_agents.specs.Made.{Made, by_lines, by_board, until_devices, by_parts, by_first, lines_read, made_read}
use Rattle.dma_agents.specs.Parts.{StartsBehind, Finds, IsWithout}

-- behind the right first line
behind_first : (text : List ℕ) (at : ℕ) → StartsBehind text at → made_read text ≡ by_parts (length (lines_of (drop at text)) + 2) (until_devices (lines_of (drop at text)))
behind_first text at starts =
    let lines : List (List ℕ) = lines_of (drop at text) in
    let F : Bool → Result Made MakeFault = λ b. cond b (by_parts (length lines + 2) (until_devices lines)) (Err (OfLine 1 Misshapen)) in
    ap by_first starts.lines ∙ ap F starts.is_mark

pub by_parts_found : (text : List ℕ) (at : ℕ) (found : DevicesLine) → StartsBehind text at → Finds text at found
    → made_read text ≡ by_board found.number (lines_of (drop found.behind text)) (read_lines None 1 (lines_of (slice_range text at found.start)))
by_parts_found text at found starts finds =
    let part : List (List ℕ) = lines_of (slice_range text at found.start) in
    let rest : List (List ℕ) = lines_of (drop found.behind text) in
    behind_first text at starts
    ∙ ap (by_parts (length (lines_of (drop at text)) + 2)) finds.parts
    ∙ ap (λ n. by_board n rest (read_lines None 1 part)) (sym finds.number)

pub without_devices : (text : List ℕ) (at past : ℕ) → StartsBehind text at → IsWithout text at past → made_read text ≡ Err (OfLine past Misshapen)
without_devices text at past starts lacks =
    behind_first text at starts ∙ ap (by_parts (length (lines_of (drop at text)) + 2)) lacks.0 ∙ ap (λ n. Err (OfLine n Misshapen)) (sym lacks.1)

refused_by : (number : ℕ) (lines : List (List ℕ)) (reading : Result (Option Draft) (ℕ × LineFault)) (at : ℕ) (fault : LineFault) → sheet_ended reading ≡ Err (at, fault) → by_board number lines reading ≡ Err (OfBoard (at + 1) fault)
refused_by number lines (Ok None) at fault is =
    let pair : (1, LineFault.NoFirstLine) ≡ (at, fault) = cc in
    ap (λ (p : ℕ × LineFault). Err (OfBoard (p.0 + 1) p.1)) pair
refused_by number lines (Ok (Some draft)) at fault is = cc
refused_by number lines (Err refused) at fault is =
    let pair : refused ≡ (at, fault) = cc in
    ap (λ (p : ℕ × LineFault). Err (OfBoard (p.0 + 1) p.1)) pair

-- a fault of the board part
pub sheet_refused : (number : ℕ) (lines : List (List ℕ)) (part : List ℕ) (at line : ℕ) (fault : LineFault) → sheet_read part ≡ Err (at, fault) → line ≡ at + 1
    → by_board number lines (read_lines None 1 (lines_of part)) ≡ Err (OfBoard line fault)
sheet_refused number lines part at line fault is numbers =
    refused_by number lines (read_lines None 1 (lines_of part)) at fault is ∙ ap (λ n. Err (OfBoard n fault)) (sym numbers)

given_by : (number : ℕ) (lines : List (List ℕ)) (reading : Result (Option Draft) (ℕ × LineFault)) (draft : Draft) → sheet_ended reading ≡ Ok draft
    → by_board number lines reading ≡ by_lines (length (board_of draft).masters) (lines_read (record { sheet = draft; owner = Nobody; waits = [] }) number lines)
given_by number lines (Ok None) draft is = cc
given_by number lines (Ok (Some given)) draft is =
    let same : given ≡ draft = cc in
    ap (λ (d : Draft). by_lines (length (board_of d).masters) (lines_read (record { sheet = d; owner = Nobody; waits = [] }) number lines)) same
given_by number lines (Err refused) draft is = cc

-- a board part without a fault
pub sheet_given : (number : ℕ) (lines : List (List ℕ)) (part : List ℕ) (draft : Draft) → sheet_read part ≡ Ok draft
    → by_board number lines (read_lines None 1 (lines_of part)) ≡ by_lines (length (board_of draft).masters) (lines_read (record { sheet = draft; owner = Nobody; waits = [] }) number lines)
sheet_given number lines part draft is = given_by number lines (read_lines None 1 (lines_of part)) draft is

-- what is made behind the lines of devices
pub whole_text : (text : List ℕ) (at : ℕ) (found : DevicesLine) (sheet : Draft) (first : ℕ) (waits : List Waiting) (making : Making) → StartsBehind text at → Finds text at found
    → sheet_read (slice_range text at found.start) ≡ Ok sheet → first ≡ length (board_of sheet).masters → waits ≡ []
    → lines_read (record { sheet = sheet; owner = Nobody; waits = waits }) found.number (lines_of (drop found.behind text)) ≡ Ok making
    → made_read text ≡ by_lines first (Ok making)
whole_text text at found sheet first waits making starts finds read count none all =
    let rest : List (List ℕ) = lines_of (drop found.behind text) in
    let begun : List Waiting → Making = λ ws. record { sheet = sheet; owner = Nobody; waits = ws } in
    by_parts_found text at found starts finds
    ∙ sheet_given found.number rest (slice_range text at found.start) sheet read
    ∙ ap (λ n. by_lines n (lines_read (begun []) found.number rest)) (sym count)
    ∙ ap (λ ws. by_lines first (lines_read (begun ws) found.number rest)) (sym none)
    ∙ ap (by_lines first) all
