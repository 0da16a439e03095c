-- The flags of a made board are clear.
use Rattle.std.proofs.Common.{◌≡◌, ℕ, zero, suc, ◌+◌, ◌-◌, ◌≤◌, Bool, true, false, cond, nat_lt, List, [], ◌∷◌, length, drop, Option, Some, None, Result, Ok, Err, refl, ap, subst, ◌∙◌, arith, slice_get, codes}
use Rattle.pci_command.specs.declared.command.Space.TheVariants.{Mem}
use Rattle.pci_command.specs.declared.op_id.OpId.{OpId}
use Rattle.board_model.specs.Wants.{exactly}
use Rattle.board_model.specs.declared.agents.Master.{Master}
use Rattle.board_model.specs.declared.board.Board.{Board}
use Rattle.list_facts.proofs.TestLemmas.{list_all-get}
use Rattle.board_model.specs.declared.op.Op.{Op}
use Rattle.board_model.specs.declared.op.Op.TheVariants.{Poll}
use Rattle.std.specs.Option.{option_and_then}
use Rattle.board_model.specs.Requests.{tries_of, op_of}
use Rattle.board_text.specs.Lines.{lines_of}
use Rattle.text_faults.specs.declared.board_line.LineFault.{LineFault}
use Rattle.board_parser.specs.declared.draft.draft.Draft.{Draft}
use Rattle.board_parser.specs.draft.Drafts.{board_of}
use Rattle.board_parser.specs.Boards.{read_lines}
use Rattle.history_model.specs.Clear.{is_clear}
use Rattle.dma_agents.specs.declared.fault.MakeFault.{MakeFault}
use Rattle.dma_agents.specs.declared.making.Making.{Making}
use Rattle.dma_agents.specs.declared.fault.MakeFault.TheVariants.{Device as OfLine}
use Rattle.text_faults.specs.declared.device.DeviceFault.TheVariants.{Misshapen}
use Rattle.dma_agents.specs.declared.line.DeviceOwner.TheVariants.{Nobody}
use Rattle.dma_agents.specs.declared.line.Waiting.{Waiting}
use Rattle.dma_agents.specs.Made.{unclear, Made, by_flags, by_lines, by_board, until_devices, by_parts, is_line, by_first, made_read}
use Rattle.dma_agents.proofs.StepLemmas.{OnMaking, all_keep}
use Rattle.dma_agents.proofs.FlagLemmas.{polls_clear, master_clear, Clear, Listed, lines_listed, none_begun, none_unclear}

-- each poll of the masters of devices is for a flag that is clear
abbrev ClearMade : Result Made MakeFault → Type 0
ClearMade (Ok made) = Clear (is_clear made.board) made.first made.board
ClearMade (Err fault) = Unit {0}

flags_clear : (board : Board) (first : ℕ) (found : Option Waiting) → (found ≡ None → Clear (is_clear board) first board) → ClearMade (by_flags board first found)
flags_clear board first None each = each refl
flags_clear board first (Some wait) each = tt

making_clear : (first : ℕ) (making : Result Making MakeFault) → ((clear : ℕ → ℕ → Bool) → OnMaking (Listed clear first) making) → ClearMade (by_lines first making)
making_clear first (Ok making) each =
    let board : Board = board_of making.sheet in
    flags_clear board first (unclear board making.waits) (λ none. each (is_clear board) (none_unclear (is_clear board) making.waits none))
making_clear first (Err fault) each = tt

draft_clear : (number : ℕ) (lines : List (List ℕ)) (draft : Result (Option Draft) (ℕ × LineFault)) → ClearMade (by_board number lines draft)
draft_clear number lines (Ok None) = tt
draft_clear number lines (Ok (Some draft)) =
    let first : ℕ = length (board_of draft).masters in
    making_clear first _ (λ clear. all_keep (Listed clear first) (lines_listed clear first) (record { sheet = draft; owner = Nobody; waits = [] }) number lines (λ _. none_begun clear (board_of draft)))
draft_clear number lines (Err fault) = tt

parts_clear : (past : ℕ) (parts : Option (List (List ℕ) × List (List ℕ))) → ClearMade (by_parts past parts)
parts_clear past None = tt
parts_clear past (Some parts) = draft_clear (length parts.0 + 3) parts.1 (read_lines None 1 parts.0)

first_clear : (lines : List (List ℕ)) → ClearMade (by_first lines)
first_clear [] = tt
first_clear (line ∷ lines) =
    let P : Bool → Type 0 = λ b. ClearMade (cond b (by_parts (length lines + 2) (until_devices lines)) (Err (OfLine 1 Misshapen))) in
    elim (is_line (codes "pcidevices" ∷ codes "1" ∷ []) line) as P [ true ↦ parts_clear (length lines + 2) (until_devices lines) | false ↦ tt ]

behind_drop : {X : Type 0} (xs : List X) (first place : ℕ) (x : X) → first ≤ place → slice_get xs place ≡ Some x → slice_get (drop first xs) (place - first) ≡ Some x
behind_drop xs zero place x least is = let same : place - 0 ≡ place = omega arith in ap (slice_get xs) same ∙ is
behind_drop [] (suc first) place x least is = cc
behind_drop (y ∷ ys) (suc first) zero x least is = absurd (omega (arith, least))
behind_drop (y ∷ ys) (suc first) (suc place) x least is =
    let same : suc place - suc first ≡ place - first = omega arith in
    ap (slice_get (drop first ys)) same ∙ behind_drop ys first place x (omega (arith, least)) is

-- where an operation stands
record Stands (board : Board) (o : OpId) (op : Op) : Type 0 where
  master : Master
  is_master : slice_get board.masters o.master ≡ Some master
  there : slice_get master.ops o.index ≡ Some op

stands_at : (board : Board) (o : OpId) (op : Op) → op_of board o ≡ Some op → Stands board o op
stands_at board o op is =
    let here : Op → Option Op = λ p. cond (nat_lt o.attempt (tries_of p)) (Some p) None in
    let P : Option Master → Type 0 = λ found. slice_get board.masters o.master ≡ found → option_and_then here (option_and_then (λ (m : Master). slice_get m.ops o.index) found) ≡ Some op → Stands board o op in
    (elim (slice_get board.masters o.master) as P [
      | None ↦ λ _ e. cc
      | Some master ↦ λ is_master e.
          let Q : Option Op → Type 0 = λ found. slice_get master.ops o.index ≡ found → option_and_then here found ≡ Some op → Stands board o op in
          (elim (slice_get master.ops o.index) as Q [
            | None ↦ λ _ f. cc
            | Some p ↦ λ there f.
                let R : Bool → Type 0 = λ b. cond b (Some p) None ≡ Some op → Stands board o op in
                (elim (nat_lt o.attempt (tries_of p)) as R [
                  | true ↦ λ g. let one : p ≡ op = cc in record { master = master; is_master = is_master; there = there ∙ ap Some one }
                  | false ↦ λ g. cc
                ]) f
          ]) refl e
    ]) refl is

pub made_clear : (text : List ℕ) (made : Made) (p : OpId) (address value tries : ℕ) → made_read text ≡ Ok made → made.first ≤ p.master
    → op_of made.board p ≡ Some (Poll Mem address (exactly value) tries) → is_clear made.board address value ≡ true
made_clear text made p address value tries is least awaits =
    let board : Board = made.board in
    let op : Op = Poll Mem address (exactly value) tries in
    let stands = stands_at board p op awaits in
    let all : ClearMade (Ok made) = subst ClearMade is (first_clear (lines_of text)) in
    let behind = behind_drop board.masters made.first p.master stands.master least stands.is_master in
    let own = list_all-get (master_clear (is_clear board)) (drop made.first board.masters) (p.master - made.first) stands.master all behind in
    list_all-get (polls_clear (is_clear board)) stands.master.ops p.index op own stands.there
