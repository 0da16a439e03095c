-- What a line of devices says is kept up to the end of the text.
use Rattle.std.proofs.Common.{◌≡◌, ◌⊎◌, inl, inr, ℕ, zero, suc, ◌+◌, ◌<◌, Bool, true, false, ◌&&◌, cond, nat_lt, List, [], ◌∷◌, ◌++◌, length, slice_index_or, drop, Option, Some, None, Result, Ok, Err, refl, sym, ap, subst, ◌∙◌, arith, codes}
use Rattle.std.specs.Prelude.{Contains}
use Rattle.std.specs.List.{list_all}
use Rattle.board_model.specs.declared.board.Board.{Board}
use Rattle.board_text.specs.Lines.{lines_of, line_fault}
use Rattle.board_text.specs.Tokens.{words_of}
use Rattle.board_parser.specs.declared.draft.draft.Draft.{Draft}
use Rattle.board_parser.specs.draft.Drafts.{board_of}
use Rattle.board_parser.specs.Boards.{read_lines}
use Rattle.history_model.specs.Clear.{is_clear}
use Rattle.text_faults.specs.declared.board_line.LineFault.{LineFault}
use Rattle.text_faults.specs.declared.device.DeviceFault.{DeviceFault}
use Rattle.text_faults.specs.declared.device.DeviceFault.TheVariants.{Misshapen}
use Rattle.dma_agents.specs.declared.fault.MakeFault.{MakeFault}
use Rattle.dma_agents.specs.declared.fault.MakeFault.TheVariants.{Device as OfLine}
use Rattle.dma_agents.specs.declared.line.Flag.{Flag}
use Rattle.dma_agents.specs.declared.line.Waiting.{Waiting}
use Rattle.dma_agents.specs.declared.line.DeviceLine.{DeviceLine}
use Rattle.dma_agents.specs.declared.line.DeviceOwner.TheVariants.{Nobody}
use Rattle.dma_agents.specs.declared.making.Making.{Making}
use Rattle.dma_agents.specs.DeviceLines.{device_line}
use Rattle.dma_agents.specs.Adding.{line_added}
use Rattle.dma_agents.specs.Made.{is_faultless, is_line, is_blank, flag_of, waits_behind, with_draft, form_of, said_by, line_read, fault_behind, behind_end, then_lines, lines_read, unclear, Made, by_flags, by_lines, by_board, until_devices, by_parts, by_first, made_read}
use Rattle.dma_agents.specs.Said.{one_said, said_in, said_behind, device_lines}
use Rattle.dma_agents.proofs.SaidLemmas.{by_said, line_said}
use Rattle.dma_agents.proofs.StepLemmas.{OnMaking, LinesKeep, all_keep}
use Rattle.dma_agents.proofs.FlagLemmas.{wait_clear, flag_clear, waits_clear, none_unclear}

-- Some element.

-- some element of the list has it
abbrev pub Among : {X : Type 0} → (X → Type 0) → List X → Type 0
Among P [] = ⊥
Among P (x ∷ xs) = P x ⊎ Among P xs

place_among : {X : Type 0} (xs : List X) (k : ℕ) (x : X) → k < length xs → slice_index_or xs k x ≡ x → Among (λ y. y ≡ x) xs
place_among [] k x within is = absurd (omega (arith, within))
place_among (y ∷ xs) zero x within is = inl is
place_among (y ∷ xs) (suc k) x within is = inr (place_among xs k x (omega (arith, within)) is)

contained : {X : Type 0} (xs : List X) (x : X) → Contains xs x → Among (λ y. y ≡ x) xs
contained xs x there = place_among xs there.0 x there.1 there.2

-- One line.

-- the line has it kept, where it adds something
abbrev pub Starts : (Making → Type 0) → DeviceLine → Type 0
Starts P said = (making : Making) (number : ℕ) (words : List (List ℕ)) → device_line words ≡ Ok said → OnMaking P (with_draft making number said (line_added making.owner making.sheet said))

form_said : (form : Result DeviceLine LineFault) (said : DeviceLine) → form_of form ≡ Ok (Some said) → form ≡ Ok said
form_said (Ok line) said is = cc
form_said (Err fault) said is = absurd (cc)

words_said : (line : List ℕ) (said : DeviceLine) → said_by line ≡ Ok (Some said) → device_line (words_of line) ≡ Ok said
words_said line said is =
    let form = device_line (words_of line) in
    let P : Bool → Type 0 = λ b. cond b (form_of form) (Ok None) ≡ Ok (Some said) → form ≡ Ok said in
    let by_words : (b : Bool) → P b = λ b. elim b as P [ true ↦ λ e. form_said form said e | false ↦ λ e. absurd (cc) ] in
    let Q : Bool → Type 0 = λ b. cond b (cond (nat_lt 0 (length (words_of line))) (form_of form) (Ok None)) (Err Misshapen) ≡ Ok (Some said) → form ≡ Ok said in
    (elim (is_faultless (line_fault line)) as Q [ true ↦ λ e. by_words (nat_lt 0 (length (words_of line))) e | false ↦ λ e. absurd (cc) ]) is

-- All lines.

then_told : (P : Making → Type 0) (step : Result Making DeviceFault) (number : ℕ) (later : Making → Result Making MakeFault)
    → ((making : Making) → OnMaking P (later making)) → OnMaking P (then_lines step number later)
then_told P (Ok making) number later each = each making
then_told P (Err fault) number later each = tt

then_kept : (P : Making → Type 0) (step : Result Making DeviceFault) (number : ℕ) (later : Making → Result Making MakeFault)
    → OnMaking P step → ((making : Making) → P making → OnMaking P (later making))
    → OnMaking P (then_lines step number later)
then_kept P (Ok making) number later holds each = each making holds
then_kept P (Err fault) number later holds each = tt

-- the rest of the lines, from a line on
abbrev Rest : (Making → Type 0) → ℕ → List (List ℕ) → Type 0
Rest P number lines = (making : Making) → OnMaking P (lines_read making number lines)

here_or_later : (P : Making → Type 0) (said : DeviceLine) → LinesKeep P → Starts P said
    → (making : Making) (number : ℕ) (line : List ℕ) (lines : List (List ℕ))
    → (Among (λ y. y ≡ said) (said_in lines) → Rest P (number + 1) lines)
    → (here : Result (Option DeviceLine) DeviceFault) → said_by line ≡ here → Among (λ y. y ≡ said) (one_said here ++ said_in lines) → OnMaking P (then_lines (by_said making number here) number (λ next. lines_read next (number + 1) lines))
here_or_later P said keep starts making number line lines rest (Ok None) is among = rest among making
here_or_later P said keep starts making number line lines rest (Ok (Some first)) is among =
    let step : Result Making DeviceFault = with_draft making number first (line_added making.owner making.sheet first) in
    let S : DeviceLine → Type 0 = λ l. device_line (words_of line) ≡ Ok l → OnMaking P (with_draft making number l (line_added making.owner making.sheet l)) in
    elim among [
      | inl same ↦
          then_kept P step number (λ next. lines_read next (number + 1) lines)
          (subst S (sym same) (starts making number (words_of line)) (words_said line first is))
          (λ next still. all_keep P keep next (number + 1) lines still)
      | inr more ↦ then_told P step number (λ next. lines_read next (number + 1) lines) (rest more)
    ]
here_or_later P said keep starts making number line lines rest (Err fault) is among = tt

lines_told : (P : Making → Type 0) (said : DeviceLine) → LinesKeep P → Starts P said
    → (making : Making) (number : ℕ) (lines : List (List ℕ)) → Among (λ y. y ≡ said) (said_in lines)
    → OnMaking P (lines_read making number lines)
lines_told P said keep starts making number [] among = absurd among
lines_told P said keep starts making number (line ∷ lines) among =
    let later : Making → Result Making MakeFault = λ next. lines_read next (number + 1) lines in
    let Q : Bool → Type 0 = λ b. Among (λ y. y ≡ said) (cond b [] (one_said (said_by line) ++ said_in lines)) → OnMaking P (cond b (behind_end making (fault_behind (number + 1) lines)) (then_lines (line_read making number line) number later)) in
    let R : Result Making DeviceFault → Type 0 = λ step. OnMaking P (then_lines step number later) in
    let rest : Among (λ y. y ≡ said) (said_in lines) → Rest P (number + 1) lines = λ more next. lines_told P said keep starts next (number + 1) lines more in
    (elim (is_line (codes "end" ∷ []) line && list_all is_blank lines) as Q [
      | true ↦ λ e. absurd e
      | false ↦ λ e. subst R (sym (line_said making number line)) (here_or_later P said keep starts making number line lines rest (said_by line) refl e)
    ]) among

-- The whole text.

-- it holds of what is made, where there is no fault
abbrev pub OnMade : (Made → Type 0) → Result Made MakeFault → Type 0
OnMade R (Ok made) = R made
OnMade R (Err fault) = Unit {0}

-- what was kept, and that all flags are clear, give it of the board
abbrev pub Gives : (Making → Type 0) → (Made → Type 0) → Type 0
Gives P R = (making : Making) (first : ℕ) → P making → unclear (board_of making.sheet) making.waits ≡ None → R (record { board = board_of making.sheet; first = first })

flags_told : (R : Made → Type 0) (board : Board) (first : ℕ) (found : Option Waiting) → (found ≡ None → R (record { board = board; first = first })) → OnMade R (by_flags board first found)
flags_told R board first None each = each refl
flags_told R board first (Some wait) each = tt

making_told : (P : Making → Type 0) (R : Made → Type 0) → Gives P R → (first : ℕ) (making : Result Making MakeFault) → OnMaking P making → OnMade R (by_lines first making)
making_told P R gives first (Ok making) holds = flags_told R (board_of making.sheet) first (unclear (board_of making.sheet) making.waits) (gives making first holds)
making_told P R gives first (Err fault) holds = tt

draft_told : (P : Making → Type 0) (R : Made → Type 0) (said : DeviceLine) → LinesKeep P → Starts P said
    → Gives P R → (number : ℕ) (lines : List (List ℕ)) (draft : Result (Option Draft) (ℕ × LineFault))
    → Among (λ y. y ≡ said) (said_in lines) → OnMade R (by_board number lines draft)
draft_told P R said keep starts gives number lines (Ok None) among = tt
draft_told P R said keep starts gives number lines (Ok (Some draft)) among =
    making_told P R gives (length (board_of draft).masters) _ (lines_told P said keep starts (record { sheet = draft; owner = Nobody; waits = [] }) number lines among)
draft_told P R said keep starts gives number lines (Err fault) among = tt

parts_told : (P : Making → Type 0) (R : Made → Type 0) (said : DeviceLine) → LinesKeep P → Starts P said
    → Gives P R → (past : ℕ) (parts : Option (List (List ℕ) × List (List ℕ)))
    → Among (λ y. y ≡ said) (said_behind parts) → OnMade R (by_parts past parts)
parts_told P R said keep starts gives past None among = tt
parts_told P R said keep starts gives past (Some parts) among = draft_told P R said keep starts gives (length parts.0 + 3) parts.1 (read_lines None 1 parts.0) among

first_told : (P : Making → Type 0) (R : Made → Type 0) (said : DeviceLine) → LinesKeep P → Starts P said
    → Gives P R → (lines : List (List ℕ)) → Among (λ y. y ≡ said) (said_behind (until_devices (drop 1 lines)))
    → OnMade R (by_first lines)
first_told P R said keep starts gives [] among = tt
first_told P R said keep starts gives (line ∷ lines) among =
    let Q : Bool → Type 0 = λ b. OnMade R (cond b (by_parts (length lines + 2) (until_devices lines)) (Err (OfLine 1 Misshapen))) in
    elim (is_line (codes "pcidevices" ∷ codes "1" ∷ []) line) as Q [ true ↦ parts_told P R said keep starts gives (length lines + 2) (until_devices lines) among | false ↦ tt ]

-- what a line starts, and each line keeps, holds of the board that is made
pub text_told : (P : Making → Type 0) (R : Made → Type 0) (said : DeviceLine) → LinesKeep P → Starts P said
    → Gives P R → (text : List ℕ) (made : Made) → made_read text ≡ Ok made → Contains (device_lines text) said
    → R made
text_told P R said keep starts gives text made is there =
    subst (OnMade R) is (first_told P R said keep starts gives (lines_of text) (contained (device_lines text) said there))

-- The flag of a line.

-- where all flags that are waited for pass a test, this one does
abbrev Passes : (ℕ → ℕ → Bool) → Flag → Making → Type 0
Passes clear flag making = list_all (wait_clear clear) making.waits ≡ true → clear flag.address flag.value ≡ true

with_waits : (clear : ℕ → ℕ → Bool) (flag : Flag) (making : Making) (number : ℕ) (line : DeviceLine) (step : Result Draft DeviceFault)
    → (list_all (wait_clear clear) (waits_behind making.waits number (flag_of line)) ≡ true → clear flag.address flag.value ≡ true)
    → OnMaking (Passes clear flag) (with_draft making number line step)
with_waits clear flag making number line (Ok draft) each = each
with_waits clear flag making number line (Err fault) each = tt

flag_keeps : (clear : ℕ → ℕ → Bool) (flag : Flag) → LinesKeep (Passes clear flag)
flag_keeps clear flag = record {
  line = λ making number words line is holds.
      with_waits clear flag making number line (line_added making.owner making.sheet line) (λ all. holds (waits_clear clear making.waits number (flag_of line) all).0);
}

flag_starts : (clear : ℕ → ℕ → Bool) (flag : Flag) (said : DeviceLine) → flag_of said ≡ Some flag → Starts (Passes clear flag) said
flag_starts clear flag said is = λ making number words _.
    with_waits clear flag making number said (line_added making.owner making.sheet said) (λ all.
    subst (λ found. flag_clear clear found ≡ true) is (waits_clear clear making.waits number (flag_of said) all).1)

tests_apart : (flag : Flag) (step : Result Making DeviceFault)
    → ((clear : ℕ → ℕ → Bool) → OnMaking (Passes clear flag) step)
    → OnMaking (λ making. (clear : ℕ → ℕ → Bool) → Passes clear flag making) step
tests_apart flag (Ok making) each = each
tests_apart flag (Err fault) each = tt

all_tests : (flag : Flag) (making : Making) (number : ℕ) (line : DeviceLine)
    → ((clear : ℕ → ℕ → Bool) → OnMaking (Passes clear flag) (with_draft making number line (line_added making.owner making.sheet line)))
    → OnMaking (λ m. (clear : ℕ → ℕ → Bool) → Passes clear flag m) (with_draft making number line (line_added making.owner making.sheet line))
all_tests flag making number line each = tests_apart flag (with_draft making number line (line_added making.owner making.sheet line)) each

-- each flag that a line waits for is clear
pub waited_clear : (text : List ℕ) (made : Made) (said : DeviceLine) (flag : Flag) → made_read text ≡ Ok made
    → Contains (device_lines text) said → flag_of said ≡ Some flag
    → is_clear made.board flag.address flag.value ≡ true
waited_clear text made said flag is there waits =
    let P : Making → Type 0 = λ making. (clear : ℕ → ℕ → Bool) → Passes clear flag making in
    let keep : LinesKeep P = record { line = λ making number words line form holds. all_tests flag making number line (λ clear. (flag_keeps clear flag).line making number words line form (holds clear)) } in
    let starts : Starts P said = λ making number words form. all_tests flag making number said (λ clear. flag_starts clear flag said waits making number words form) in
    let gives : Gives P (λ m. is_clear m.board flag.address flag.value ≡ true) = λ making first holds none. holds (is_clear (board_of making.sheet)) (none_unclear (is_clear (board_of making.sheet)) making.waits none) in
    text_told P (λ m. is_clear m.board flag.address flag.value ≡ true) said keep starts gives text made is there
