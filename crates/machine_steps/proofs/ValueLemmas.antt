-- What data phases make of a dword, by the list of landings.
use Rattle.std.proofs.Common.{◌≡◌, ℕ, Bool, true, false, ◌+◌, ◌<◌, get_or, take, length, reverse, List, [], ◌∷◌, ◌++◌, Option, Some, None, refl, sym, subst, ◌∙◌, ap, ◌==◌, if◌then◌else◌}
use Rattle.std.proofs.lemmas.List.{take_more, reverse-append}
use Rattle.pci_command.specs.declared.command.Space.{Space}
use Rattle.pci_command.specs.declared.phases.Phase.{Phase}
use Rattle.pci_command.specs.declared.op_id.OpId.{OpId}
use Rattle.pci_command.specs.declared.request.Request.{Request}
use Rattle.pci_command.specs.Command.{space_of}
use Rattle.pci_command.specs.Same.{same_space}
use Rattle.board_model.specs.declared.board.Board.{Board}
use Rattle.board_model.specs.Ways.{Dword, address_in}
use Rattle.board_model.specs.device.Registers.{merge_of}
use Rattle.history_model.specs.declared.event.Event.{Event}
use Rattle.history_model.specs.declared.event.Step.{Step}
use Rattle.history_model.specs.Words.{Landing, without, brings, landings_at, landings_in, landings_of, merged, mask_in, landed, brought, opens_as, value_of}
use Rattle.history_model.specs.Runs.{history_of}
use Rattle.machine_steps.specs.Values.{value_merged}

pub merged-append : (word : Dword) (value : ℕ) (xs ys : List Landing) → merged word value (xs ++ ys) ≡ merged word (merged word value xs) ys
merged-append word value [] ys = refl
merged-append word value (x ∷ xs) ys = merged-append word (merge_of value x.phase (mask_in word.space word.address)) xs ys

-- the landings of data phases from `at` on
pub merged_landings : (target : ℕ) (o : OpId) (space : Space) (address at value : ℕ) (phases : List Phase) →
    merged (record { target = target; space = space; address = address }) value (landings_at o address at phases)
    ≡ value_merged space address at value phases
merged_landings target o space address at value [] = refl
merged_landings target o space address at value (phase ∷ phases) =
    let word : Dword = record { target = target; space = space; address = address } in
    let P : Bool → Type 0 = λ b.
    merged word value ((if b then record { op = o; phase = phase } ∷ [] else []) ++ landings_at o address (at + 4) phases)
    ≡ value_merged space address (at + 4) (if b then merge_of value phase (mask_in space address) else value) phases in
    elim (at == address) as P [
      | true ↦ merged_landings target o space address (at + 4) (merge_of value phase (mask_in space address)) phases
      | false ↦ merged_landings target o space address (at + 4) value phases
    ]

-- a step that brings no data phases leaves a dword as it is
none_in : (o : OpId) (word : Dword) (space : Space) (address : ℕ) → landings_in o word space address [] ≡ []
none_in o word space address =
    let P : Bool → Type 0 = λ b. (if b then landings_at o word.address (address_in space address) [] else []) ≡ [] in
    elim (same_space space word.space) as P [ true ↦ refl | false ↦ refl ]

none_landed : (o : OpId) (step : Step) (gone : ℕ) (word : Dword) (request : Option Request) →
    ((phases : List Phase) → brings step phases ≡ []) → landings_of o step gone word request ≡ []
none_landed o step gone word None none = refl
none_landed o step gone word (Some request) none =
    let rest : Request = without gone request in
    let P : List Phase → Type 0 = λ phases. landings_in o word (space_of rest.command) rest.address phases ≡ [] in
    subst P (sym (none rest.phases)) (none_in o word (space_of rest.command) rest.address)

pub nothing_brought : (o : OpId) (step : Step) (gone : ℕ) (word : Dword) (value : ℕ) (request : Option Request) →
    ((phases : List Phase) → brings step phases ≡ []) → merged word value (landings_of o step gone word request) ≡ value
nothing_brought o step gone word value request none =
    let P : List Landing → Type 0 = λ landings. merged word value landings ≡ value in
    subst P (sym (none_landed o step gone word request none)) refl

-- what one more event makes of a dword
pub value_after_event : (board : Board) (h : List Event) (e : Event) (word : Dword) →
    value_of board (e ∷ h) word ≡ merged word (value_of board h word) (brought board h word e)
value_after_event board h e word = merged-append word (opens_as board word) (landed board h word) (brought board h word e)

-- the value after one event more of a trace
pub value_kept : (board : Board) (before : List Event) (i : ℕ) (d : Event) (word : Dword) (value next : ℕ) → i < length before →
    value ≡ value_of board (history_of (take i before)) word →
    next ≡ merged word value (brought board (history_of (take i before)) word (get_or before i d)) →
    next ≡ value_of board (history_of (take (i + 1) before)) word
value_kept board before i d word value next within now step =
    let e = get_or before i d in
    let h = history_of (take i before) in
    let more : history_of (take (i + 1) before) ≡ e ∷ h =
    ap (λ (xs : List Event). reverse xs) (take_more before i d within) ∙ reverse-append (take i before) (e ∷ []) in
    step ∙ (ap (λ v. merged word v (brought board h word e)) now
    ∙ (sym (value_after_event board h e word) ∙ ap (λ (xs : List Event). value_of board xs word) (sym more)))
