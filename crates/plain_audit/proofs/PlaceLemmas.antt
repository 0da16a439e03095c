-- What landed in a dword, by the operations of the events.
use Rattle.std.proofs.Common.{◌≡◌, ℕ, ◌+◌, ◌*◌, ◌<◌, Bool, true, false, ◌&&◌, ◌||◌, ◌==◌, cond, get_or, take, drop, length, reverse, List, [], ◌∷◌, ◌++◌, Option, Some, None, refl, sym, ap, subst, ◌∙◌, arith}
use Rattle.std.specs.List.{find, AllByRecursion}
use Rattle.std.proofs.lemmas.List.{take_more, drop_more, reverse-append}
use Rattle.list_facts.proofs.FindLemmas.{find-append_found, find-append_none}
use Rattle.pci_command.specs.declared.command.Space.{Space}
use Rattle.pci_command.specs.declared.phases.Phase.{Phase}
use Rattle.pci_command.specs.declared.op_id.OpId.{OpId}
use Rattle.pci_command.specs.declared.request.Request.{Request}
use Rattle.pci_command.specs.Command.{space_of}
use Rattle.pci_command.specs.Same.{same_space}
use Rattle.board_model.specs.declared.board.Board.{Board}
use Rattle.board_model.specs.Ways.{Dword, address_in}
use Rattle.history_model.specs.declared.event.Step.{Step}
use Rattle.history_model.specs.declared.event.Event.{Event}
use Rattle.history_model.specs.declared.event.Event.TheVariants.{Act, Arrive}
use Rattle.history_model.specs.Words.{Landing, without, brings, landings_at, landings_in, landings_of, brought, landed}
use Rattle.history_model.specs.Runs.{history_of}
use Rattle.law_fresh.proofs.Laws.{IsOf, brought_of}
use Rattle.law_audit.specs.Chains.{op_in}
use Rattle.plain_audit.specs.Places.{has_some, reaches_dword, op_shows, shows_by, or_op, shown_op, event_shows}

-- data phases that reach the dword land there
reached_before : (reached : Bool) (o : OpId) (address at : ℕ) (phases : List Phase) → (reached || has_some (landings_at o address at phases)) ≡ reaches_dword reached address at phases
reached_before true o address at [] = refl
reached_before false o address at [] = refl
reached_before reached o address at (phase ∷ phases) =
    let P : Bool → Type 0 = λ b. (reached || has_some ((cond b (record { op = o; phase = phase } ∷ []) []) ++ landings_at o address (at + 4) phases)) ≡ reaches_dword (reached || b) address (at + 4) phases in
    let Q : Bool → Type 0 = λ r. (r || true) ≡ reaches_dword (r || true) address (at + 4) phases in
    let R : Bool → Type 0 = λ r. (r || has_some (landings_at o address (at + 4) phases)) ≡ reaches_dword (r || false) address (at + 4) phases in
    elim (at == address) as P [
      | true ↦ elim reached as Q [ true ↦ reached_true address (at + 4) phases | false ↦ reached_true address (at + 4) phases ]
      | false ↦ elim reached as R [ true ↦ reached_before true o address (at + 4) phases | false ↦ reached_before false o address (at + 4) phases ]
    ]
  where
    reached_true : (address at : ℕ) (phases : List Phase) → true ≡ reaches_dword true address at phases
    reached_true address at [] = refl
    reached_true address at (phase ∷ phases) = reached_true address (at + 4) phases

pub reached_landings : (o : OpId) (address at : ℕ) (phases : List Phase) → has_some (landings_at o address at phases) ≡ reaches_dword false address at phases
reached_landings o address at phases = reached_before false o address at phases

-- a step that brings no data phases brings none to a dword
none_in : (o : OpId) (word : Dword) (space : Space) (address : ℕ) → has_some (landings_in o word space address []) ≡ false
none_in o word space address =
    let P : Bool → Type 0 = λ b. has_some (cond b (landings_at o word.address (address_in space address) []) []) ≡ false in
    elim (same_space space word.space) as P [ true ↦ refl | false ↦ refl ]

pub none_brought : (o : OpId) (step : Step) (gone : ℕ) (word : Dword) (request : Option Request) → ((phases : List Phase) → brings step phases ≡ []) → has_some (landings_of o step gone word request) ≡ false
none_brought o step gone word None none = refl
none_brought o step gone word (Some request) none =
    let rest : Request = without gone request in
    let P : List Phase → Type 0 = λ phases. has_some (landings_in o word (space_of rest.command) rest.address phases) ≡ false in
    subst P (sym (none rest.phases)) (none_in o word (space_of rest.command) rest.address)

-- of landings of one operation, the first is found where there is one and the operation is shown
find_of : (w o : OpId) (since : List (Option OpId)) (h : List Event) (landings : List Landing) → AllByRecursion (IsOf o) landings
    → op_in (find (shows_by w since h) landings) ≡ shown_op w since h (has_some landings) o
find_of w o since h [] each = refl
find_of w o since h (landing ∷ landings) each =
    let here : op_shows w since h landing.op ≡ op_shows w since h o = ap (op_shows w since h) each.0 in
    let later : op_in (find (shows_by w since h) landings) ≡ shown_op w since h (has_some landings) o = find_of w o since h landings each.1 in
    let P : Bool → Type 0 = λ b. op_shows w since h o ≡ b → op_in (cond (op_shows w since h landing.op) (Some landing) (find (shows_by w since h) landings)) ≡ cond b (Some o) None in
    let Q : Bool → Type 0 = λ c. cond (c && false) (Some o) None ≡ None in
    (elim (op_shows w since h o) as P [
      | true ↦ λ is. rw (here, is) (ap Some each.0)
      | false ↦ λ is.
          let F : Bool → Type 0 = λ b. op_in (find (shows_by w since h) landings) ≡ cond (has_some landings && b) (Some o) None in
          let none : op_in (find (shows_by w since h) landings) ≡ cond (has_some landings && false) (Some o) None = subst F is later in
          rw (here, is) (none ∙ elim (has_some landings) as Q [ true ↦ refl | false ↦ refl ])
    ]) refl

event_find : (board : Board) (w : OpId) (since : List (Option OpId)) (h done : List Event) (e : Event) (word : Dword) → op_in (find (shows_by w since h) (brought board done word e)) ≡ event_shows w since h (has_some (brought board done word e)) e
event_find board w since h done (Act on by o step place) word = find_of w o since h (brought board done word (Act on by o step place)) (brought_of board done on o step word place)
event_find board w since h done (Arrive lane mark) word = refl

-- what is found in two lists
find-append : (test : Landing → Bool) (xs ys : List Landing) → op_in (find test (xs ++ ys)) ≡ or_op (op_in (find test xs)) (op_in (find test ys))
find-append test xs ys =
    let P : Option Landing → Type 0 = λ found. find test xs ≡ found → op_in (find test (xs ++ ys)) ≡ or_op (op_in found) (op_in (find test ys)) in
    (elim (find test xs) as P [
      | None ↦ λ none. ap op_in (find-append_none test xs ys none)
      | Some landing ↦ λ some. ap op_in (find-append_found test xs ys landing some)
    ]) refl

-- what is shown after one event more of a trace
pub shown_kept : (board : Board) (w : OpId) (since : List (Option OpId)) (h before : List Event) (i : ℕ) (d : Event) (word : Dword) (shown next : Option OpId) → i < length before
    → shown ≡ op_in (find (shows_by w since h) (landed board (history_of (take i before)) word))
    → next ≡ or_op shown (event_shows w since h (has_some (brought board (history_of (take i before)) word (get_or before i d))) (get_or before i d))
    → next ≡ op_in (find (shows_by w since h) (landed board (history_of (take (i + 1) before)) word))
shown_kept board w since h before i d word shown next within now step =
    let e = get_or before i d in
    let done = history_of (take i before) in
    let test : Landing → Bool = shows_by w since h in
    let more : history_of (take (i + 1) before) ≡ e ∷ done =
    ap (λ (xs : List Event). reverse xs) (take_more before i d within) ∙ reverse-append (take i before) (e ∷ []) in
    let event : Option OpId = event_shows w since h (has_some (brought board done word e)) e in
    let here : or_op shown event ≡ op_in (find test (landed board (e ∷ done) word)) =
    ap (λ found. or_op found event) now
    ∙ ap (λ found. or_op (op_in (find test (landed board done word))) found) (sym (event_find board w since h done e word))
    ∙ sym (find-append test (landed board done word) (brought board done word e)) in
    step ∙ here ∙ ap (λ (xs : List Event). op_in (find test (landed board xs word))) (sym more)

-- one data phase more
pub reaches_kept : (address at next i : ℕ) (reached now all : Bool) (phases : List Phase) (d : Phase) → i < length phases → now ≡ (reached || next == address) → (reaches_dword reached address next (drop i phases) ≡ all) × (next ≡ at + 4 * i)
    → (reaches_dword now address (next + 4) (drop (i + 1) phases) ≡ all) × (next + 4 ≡ at + 4 * (i + 1))
reaches_kept address at next i reached now all phases d within is old =
    let more : drop i phases ≡ get_or phases i d ∷ drop (i + 1) phases = drop_more phases i d within in
    let here : reaches_dword reached address next (get_or phases i d ∷ drop (i + 1) phases) ≡ all = subst (λ ps. reaches_dword reached address next ps ≡ all) more old.0 in
    (subst (λ b. reaches_dword b address (next + 4) (drop (i + 1) phases) ≡ all) (sym is) here, omega (arith, old.1))
