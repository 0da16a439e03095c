-- What lands is of writes.
use Rattle.std.proofs.Common.{◌≡◌, ℕ, Bool, true, false, ◌==◌, cond, List, [], ◌∷◌, Option, Some, None, refl, sym, ap, subst}
use Rattle.std.specs.List.{AllByRecursion}
use Rattle.list_facts.proofs.EachLemmas.{Each-weaker, Each-append}
use Rattle.pci_command.specs.declared.command.Space.{Space}
use Rattle.pci_command.specs.declared.op_id.OpId.{OpId}
use Rattle.pci_command.specs.declared.phases.Phase.{Phase}
use Rattle.pci_command.specs.declared.request.Request.{Request}
use Rattle.pci_command.specs.Command.{space_of}
use Rattle.pci_command.specs.Same.{same_space}
use Rattle.board_model.specs.declared.bridge.Place.{Place}
use Rattle.board_model.specs.declared.bridge.Place.TheVariants.{Target, Header, Lane, Nobody}
use Rattle.board_model.specs.declared.op.Op.{Op}
use Rattle.board_model.specs.declared.board.Board.{Board}
use Rattle.board_model.specs.Requests.{op_of, request_on, request_of, reads, reads_in}
use Rattle.board_model.specs.Ways.{Dword}
use Rattle.history_model.specs.declared.event.By.{By}
use Rattle.history_model.specs.declared.event.Step.{Step}
use Rattle.history_model.specs.declared.event.Step.TheVariants.{Land, Part, Read, Accept, Latch, Take, Stall, MasterAbort, TargetAbort}
use Rattle.history_model.specs.declared.event.Event.{Event}
use Rattle.history_model.specs.declared.event.Event.TheVariants.{Act, Arrive}
use Rattle.history_model.specs.Words.{Landing, through, without, brings, landings_in, landings_of, landings_by, brought, landed}
use Rattle.history_model.specs.Knowledge.{is_write}
use Rattle.history_model.specs.Runs.{Run}
use Rattle.law_fresh.proofs.Laws.{IsOf, brought_of, IsThere, landings_there}
use Rattle.law_delivered.proofs.WholeLemmas.{is_taken, taken_at}

module _ (board : Board) where
  abbrev NoRead : Landing → Type 0
  NoRead landing = reads board landing.op ≡ false

  module _ (h : List Event) (word : Dword) (on : ℕ) (by : By) (o : OpId) where
    -- a step in which a target takes data phases is no read's
    taken : (step : Step) (place : Place) → Run board (Act on by o step place ∷ h) → is_taken step ≡ true → AllByRecursion NoRead (landings_by board h on o step word place)
    taken step place run is =
        let P : Option Op → Type 0 = λ found. op_of board o ≡ found → reads board o ≡ false in
        let no_read : reads board o ≡ false = (elim (op_of board o) as P [
          | None ↦ λ none. ap reads_in none
          | Some op ↦ λ is_op.
              let requested : request_of board o on ≡ Some (request_on op on) = rw is_op refl in
              rw is_op (taken_at board h on by o (request_on op on) step place requested run.0.1 is).3
        ]) refl in
        Each-weaker (IsOf o) NoRead (λ l of_o. subst (λ p. reads board p ≡ false) (sym of_o) no_read) (landings_by board h on o step word place) (brought_of board h on o step word place)

    -- any other brings nothing
    none_in : (space : Space) (address : ℕ) (phases : List Phase) → phases ≡ [] → AllByRecursion NoRead (landings_in o word space address phases)
    none_in space address phases none =
        let F : List Phase → Type 0 = λ some. AllByRecursion NoRead (landings_in o word space address some) in
        let P : Bool → Type 0 = λ b. AllByRecursion NoRead (cond b [] []) in
        let empty : F [] = elim (same_space space word.space) as P [ true ↦ tt | false ↦ tt ] in
        subst F (sym none) empty

    other : (step : Step) (place : Place) → ((phases : List Phase) → brings step phases ≡ []) → AllByRecursion NoRead (landings_by board h on o step word place)
    other step (Target target) none =
        let P : Option Request → Type 0 = λ found. AllByRecursion NoRead (landings_of o step (through h o) word found) in
        let all : AllByRecursion NoRead (landings_of o step (through h o) word (request_of board o on)) = elim (request_of board o on) as P [
          | None ↦ tt
          | Some request ↦ let rest : Request = without (through h o) request in none_in (space_of rest.command) rest.address (brings step rest.phases) (none rest.phases)
        ] in
        let Q : Bool → Type 0 = λ b. AllByRecursion NoRead (cond b (landings_of o step (through h o) word (request_of board o on)) []) in
        elim (target == word.target) as Q [ true ↦ all | false ↦ tt ]
    other step (Header bus) none = tt
    other step (Lane lane) none = tt
    other step Nobody none = tt

    step_writes : (step : Step) (place : Place) → Run board (Act on by o step place ∷ h) → AllByRecursion NoRead (landings_by board h on o step word place)
    step_writes Land place run = taken Land place run refl
    step_writes (Part phases) place run = taken (Part phases) place run refl
    step_writes (Read value) place run = other (Read value) place (λ _. refl)
    step_writes Accept place run = other Accept place (λ _. refl)
    step_writes Latch place run = other Latch place (λ _. refl)
    step_writes (Take outcome) place run = other (Take outcome) place (λ _. refl)
    step_writes Stall place run = other Stall place (λ _. refl)
    step_writes MasterAbort place run = other MasterAbort place (λ _. refl)
    step_writes TargetAbort place run = other TargetAbort place (λ _. refl)

  event_writes : (h : List Event) (word : Dword) (e : Event) → Run board (e ∷ h) → AllByRecursion NoRead (brought board h word e)
  event_writes h word (Act on by o step place) run = step_writes h word on by o step place run
  event_writes h word (Arrive lane mark) run = tt

  no_reads : (h : List Event) (word : Dword) → Run board h → AllByRecursion NoRead (landed board h word)
  no_reads [] word run = tt
  no_reads (e ∷ h) word run = Each-append NoRead (landed board h word) (brought board h word e) (no_reads h word run.1) (event_writes h word e run)

  abbrev pub IsOfWrite : Landing → Type 0
  IsOfWrite landing = is_write board landing.op ≡ true

  both_writes : (xs : List Landing) → AllByRecursion (IsThere board) xs → AllByRecursion NoRead xs → AllByRecursion IsOfWrite xs
  both_writes [] there writes = tt
  both_writes (x ∷ xs) there writes = (rw (there.0, writes.0) refl, both_writes xs there.1 writes.1)

  pub landings_write : (h : List Event) (word : Dword) → Run board h → AllByRecursion IsOfWrite (landed board h word)
  landings_write h word run = both_writes (landed board h word) (landings_there board h word) (no_reads h word run)
