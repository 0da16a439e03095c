-- What the lines of devices add keeps what each operation and each master that they add keeps.
use Rattle.std.proofs.Common.{◌≡◌, ℕ, ◌+◌, Bool, true, false, ◌&&◌, cond, not, nat_lt, List, [], ◌∷◌, length, Option, Some, None, Result, Ok, Err, refl, codes}
use Rattle.std.specs.List.{list_all}
use Rattle.std.proofs.lemmas.Bool.{and_parts}
use Rattle.board_model.specs.declared.op.Op.{Op}
use Rattle.board_text.specs.Lines.{line_fault}
use Rattle.board_text.specs.Tokens.{words_of}
use Rattle.text_faults.specs.declared.board_line.LineFault.{LineFault}
use Rattle.board_parser.specs.declared.draft.draft.Draft.{Draft}
use Rattle.board_parser.specs.draft.Drafts.{board_of}
use Rattle.board_parser.specs.draft.Masters.{add_master, does}
use Rattle.board_parser.specs.draft.Targets.{is_name_used}
use Rattle.text_faults.specs.declared.device.DeviceFault.{DeviceFault}
use Rattle.text_faults.specs.declared.device.DeviceFault.TheVariants.{Misshapen, Misplaced, NameUsed}
use Rattle.dma_agents.specs.declared.fault.MakeFault.{MakeFault}
use Rattle.dma_agents.specs.declared.line.DeviceLine.{DeviceLine}
use Rattle.dma_agents.specs.declared.line.DeviceLine.TheVariants.{Device, Handler, Puts, Gets, Sends, Looks, Waits, Writes}
use Rattle.dma_agents.specs.declared.line.DeviceOwner.{DeviceOwner}
use Rattle.dma_agents.specs.declared.making.Making.{Making}
use Rattle.dma_agents.specs.Put.{cut}
use Rattle.dma_agents.specs.DeviceLines.{device_line}
use Rattle.dma_agents.specs.Adding.{stands, is_placed, poll_of, read_of, write_of, limited, then_adds, add_one, add_ops, begins_on, begins, bus_of, bus_there, added, line_added}
use Rattle.dma_agents.specs.Made.{is_faultless, is_line, is_blank, with_draft, by_form, line_read, fault_behind, behind_end, then_lines, lines_read}

-- One line.

-- it holds of the draft, where there is one
abbrev pub OnDraft : (Draft → Type 0) → Result Draft DeviceFault → Type 0
OnDraft P (Ok draft) = P draft
OnDraft P (Err fault) = Unit {0}

-- each operation that may be added, and each master, keeps it
pub record Keeps (P : Draft → Type 0) (may : Op → Bool) : Type 0 where
  pub op : (draft next : Draft) (op : Op) → may op ≡ true → P draft → does draft op false ≡ Ok next → P next
  pub master : (draft next : Draft) (name : List ℕ) (bus : ℕ) → P draft → add_master draft.wide (board_of draft) name bus ≡ Ok next → P next

-- the operations of a line may be added
abbrev pub line_may : (Op → Bool) → DeviceLine → Bool
line_may may (Device name target bell) = may (poll_of bell)
line_may may (Handler name bus wait) = may (poll_of wait)
line_may may (Puts put) = list_all may (cut put)
line_may may (Gets address) = may (read_of address)
line_may may (Sends address message) = may (write_of address message)
line_may may (Looks address) = may (read_of address)
line_may may (Waits flag) = may (poll_of flag)
line_may may (Writes address value) = may (write_of address value)

limited_keeps : (P : Draft → Type 0) (step : Result Draft LineFault) → ((draft : Draft) → step ≡ Ok draft → P draft) → OnDraft P (limited step)
limited_keeps P (Ok draft) each = each draft refl
limited_keeps P (Err fault) each = tt

then_keeps : (P : Draft → Type 0) (step : Result Draft DeviceFault) (later : Draft → Result Draft DeviceFault) → OnDraft P step → ((draft : Draft) → P draft → OnDraft P (later draft)) → OnDraft P (then_adds step later)
then_keeps P (Ok draft) later holds each = each draft holds
then_keeps P (Err fault) later holds each = tt

one_keeps : (P : Draft → Type 0) (may : Op → Bool) → Keeps P may → (draft : Draft) (op : Op) → may op ≡ true → P draft → OnDraft P (add_one draft op)
one_keeps P may keeps draft op allowed holds = limited_keeps P (does draft op false) (λ next is. keeps.op draft next op allowed holds is)

ops_keep : (P : Draft → Type 0) (may : Op → Bool) → Keeps P may → (draft : Draft) (ops : List Op) → list_all may ops ≡ true → P draft → OnDraft P (add_ops draft ops)
ops_keep P may keeps draft [] allowed holds = holds
ops_keep P may keeps draft (op ∷ ops) allowed holds =
    let parts = and_parts (may op) (list_all may ops) allowed in
    then_keeps P (add_one draft op) (λ next. add_ops next ops) (one_keeps P may keeps draft op parts.0 holds) (λ next still. ops_keep P may keeps next ops parts.1 still)

on_keeps : (P : Draft → Type 0) (may : Op → Bool) → Keeps P may → (draft : Draft) (name : List ℕ) (bus : Option ℕ) (poll : Op) → may poll ≡ true → P draft → OnDraft P (begins_on draft name bus poll)
on_keeps P may keeps draft name None poll allowed holds = tt
on_keeps P may keeps draft name (Some bus) poll allowed holds =
    then_keeps P (limited (add_master draft.wide (board_of draft) name bus)) (λ next. add_one next poll)
    (limited_keeps P (add_master draft.wide (board_of draft) name bus) (λ next is. keeps.master draft next name bus holds is))
    (λ next still. one_keeps P may keeps next poll allowed still)

begins_keeps : (P : Draft → Type 0) (may : Op → Bool) → Keeps P may → (draft : Draft) (name : Option (List ℕ)) (bus : Option ℕ) (poll : Op) → may poll ≡ true → P draft → OnDraft P (begins draft name bus poll)
begins_keeps P may keeps draft None bus poll allowed holds = tt
begins_keeps P may keeps draft (Some name) bus poll allowed holds =
    let Q : Bool → Type 0 = λ b. OnDraft P (cond b (Err NameUsed) (begins_on draft name bus poll)) in
    elim (is_name_used (board_of draft) name) as Q [ true ↦ tt | false ↦ on_keeps P may keeps draft name bus poll allowed holds ]

added_keeps : (P : Draft → Type 0) (may : Op → Bool) → Keeps P may → (draft : Draft) (line : DeviceLine) → line_may may line ≡ true → P draft → OnDraft P (added draft line)
added_keeps P may keeps draft (Device name target bell) allowed holds = begins_keeps P may keeps draft name (bus_of (board_of draft) target) (poll_of bell) allowed holds
added_keeps P may keeps draft (Handler name bus wait) allowed holds = begins_keeps P may keeps draft name (bus_there (board_of draft) bus) (poll_of wait) allowed holds
added_keeps P may keeps draft (Puts put) allowed holds = ops_keep P may keeps draft (cut put) allowed holds
added_keeps P may keeps draft (Gets address) allowed holds = one_keeps P may keeps draft (read_of address) allowed holds
added_keeps P may keeps draft (Sends address message) allowed holds = one_keeps P may keeps draft (write_of address message) allowed holds
added_keeps P may keeps draft (Looks address) allowed holds = one_keeps P may keeps draft (read_of address) allowed holds
added_keeps P may keeps draft (Waits flag) allowed holds = one_keeps P may keeps draft (poll_of flag) allowed holds
added_keeps P may keeps draft (Writes address value) allowed holds = one_keeps P may keeps draft (write_of address value) allowed holds

pub line_keeps : (P : Draft → Type 0) (may : Op → Bool) → Keeps P may → (owner : DeviceOwner) (draft : Draft) (line : DeviceLine) → line_may may line ≡ true → P draft → OnDraft P (line_added owner draft line)
line_keeps P may keeps owner draft line allowed holds =
    let Q : Bool → Type 0 = λ b. OnDraft P (cond b (Err Misplaced) (added draft line)) in
    let placed : Q (not (is_placed line)) = elim (not (is_placed line)) as Q [ true ↦ tt | false ↦ added_keeps P may keeps draft line allowed holds ] in
    let R : Bool → Type 0 = λ b. OnDraft P (cond b (Err Misshapen) (cond (not (is_placed line)) (Err Misplaced) (added draft line))) in
    elim (not (stands owner line)) as R [ true ↦ tt | false ↦ placed ]

-- All lines.

-- it holds of what was read, where there is no fault
abbrev pub OnMaking : {F : Type 0} → (Making → Type 0) → Result Making F → Type 0
OnMaking P (Ok making) = P making
OnMaking P (Err fault) = Unit {0}

-- each line with a form keeps it
pub record LinesKeep (P : Making → Type 0) : Type 0 where
  pub line : (making : Making) (number : ℕ) (words : List (List ℕ)) (line : DeviceLine) → device_line words ≡ Ok line → P making → OnMaking P (with_draft making number line (line_added making.owner making.sheet line))

form_keeps : (P : Making → Type 0) → LinesKeep P → (making : Making) (number : ℕ) (words : List (List ℕ)) (said : Result DeviceLine LineFault) → device_line words ≡ said → P making → OnMaking P (by_form making number said)
form_keeps P keep making number words (Ok line) is holds = keep.line making number words line is holds
form_keeps P keep making number words (Err fault) is holds = tt

read_keeps : (P : Making → Type 0) → LinesKeep P → (making : Making) (number : ℕ) (line : List ℕ) → P making → OnMaking P (line_read making number line)
read_keeps P keep making number line holds =
    let words : List (List ℕ) = words_of line in
    let Q : Bool → Type 0 = λ b. OnMaking P (cond b (by_form making number (device_line words)) (Ok making)) in
    let by_words : (b : Bool) → Q b = λ b. elim b as Q [ true ↦ form_keeps P keep making number words (device_line words) refl holds | false ↦ holds ] in
    let R : Bool → Type 0 = λ b. OnMaking P (cond b (cond (nat_lt 0 (length words)) (by_form making number (device_line words)) (Ok making)) (Err Misshapen)) in
    elim (is_faultless (line_fault line)) as R [ true ↦ by_words (nat_lt 0 (length words)) | false ↦ tt ]

end_keeps : (P : Making → Type 0) (making : Making) (found : Option ℕ) → P making → OnMaking P (behind_end making found)
end_keeps P making None holds = holds
end_keeps P making (Some number) holds = tt

step_keeps : (P : Making → Type 0) (step : Result Making DeviceFault) (number : ℕ) (later : Making → Result Making MakeFault) → OnMaking P step → ((making : Making) → P making → OnMaking P (later making)) → OnMaking P (then_lines step number later)
step_keeps P (Ok making) number later holds each = each making holds
step_keeps P (Err fault) number later holds each = tt

pub all_keep : (P : Making → Type 0) → LinesKeep P → (making : Making) (number : ℕ) (lines : List (List ℕ)) → P making → OnMaking P (lines_read making number lines)
all_keep P keep making number [] holds = tt
all_keep P keep making number (line ∷ lines) holds =
    let more : Result Making MakeFault = then_lines (line_read making number line) number (λ next. lines_read next (number + 1) lines) in
    let rest : OnMaking P more = step_keeps P (line_read making number line) number (λ next. lines_read next (number + 1) lines) (read_keeps P keep making number line holds) (λ next still. all_keep P keep next (number + 1) lines still) in
    let Q : Bool → Type 0 = λ b. OnMaking P (cond b (behind_end making (fault_behind (number + 1) lines)) more) in
    elim (is_line (codes "end" ∷ []) line && list_all is_blank lines) as Q [ true ↦ end_keeps P making (fault_behind (number + 1) lines) holds | false ↦ rest ]
