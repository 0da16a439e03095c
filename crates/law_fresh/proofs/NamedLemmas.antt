-- A fact of operations that holds of each that its master presents, and is kept, holds of all that is on the lanes and
-- of all that landed, under either rule.
use Rattle.std.proofs.Common.{◌≡◌, ℕ, ◌+◌, Bool, true, false, ◌==◌, cond, eqb, eqb-true, List, [], ◌∷◌, Option, Some, None, refl, sym, subst}
use Rattle.std.specs.List.{find, AllByRecursion}
use Rattle.std.proofs.lemmas.Bool.{and_parts}
use Rattle.list_facts.specs.Lists.{before}
use Rattle.list_facts.proofs.EachLemmas.{Each-find, Each-weaker, Each-append}
use Rattle.list_facts.proofs.FindLemmas.{find_passes}
use Rattle.pci_command.specs.declared.command.Space.{Space}
use Rattle.pci_command.specs.declared.phases.Phase.{Phase}
use Rattle.pci_command.specs.declared.request.Request.{Request}
use Rattle.pci_command.specs.declared.op_id.OpId.{OpId}
use Rattle.pci_command.specs.declared.op_id.Outcome.{Outcome}
use Rattle.pci_command.specs.Command.{space_of}
use Rattle.pci_command.specs.Same.{same_space}
use Rattle.board_model.specs.declared.bridge.Lane.{Lane as BridgeLane}
use Rattle.board_model.specs.declared.bridge.Place.{Place}
use Rattle.board_model.specs.declared.bridge.Place.TheVariants.{Target, Header, Lane, Nobody}
use Rattle.board_model.specs.declared.board.Board.{Board}
use Rattle.board_model.specs.Requests.{request_of}
use Rattle.board_model.specs.Ways.{Dword, address_in, end_of}
use Rattle.history_model.specs.declared.event.By.{By}
use Rattle.history_model.specs.declared.event.By.TheVariants.{Master, Lane as ByLane}
use Rattle.history_model.specs.declared.event.Step.{Step}
use Rattle.history_model.specs.declared.event.Step.TheVariants.{Land, Part, Read, Accept, Latch, Take, Stall, MasterAbort, TargetAbort}
use Rattle.history_model.specs.declared.event.Event.{Event}
use Rattle.history_model.specs.declared.event.Event.TheVariants.{Act, Arrive}
use Rattle.history_model.specs.declared.item.Carried.{Carried}
use Rattle.history_model.specs.declared.item.Carried.TheVariants.{Post, Ask, Done, Room, Gone}
use Rattle.history_model.specs.declared.rule.Rule.{Rule}
use Rattle.history_model.specs.Lanes.{is_of}
use Rattle.history_model.specs.Words.{through, without, brings, Landing, landings_at, landings_in, landings_of, landings_by, brought, landed}
use Rattle.history_model.specs.Runs.{RunBy}
use Rattle.history_model.specs.Answers.{wants_by, presents_by, presents_item_by}
use Rattle.history_model.specs.World.{lane_outcome, world_by}
use Rattle.history_model.proofs.facts.RequestLemmas.{same_op_true}
use Rattle.law_fresh.proofs.MoveLemmas.{WorldHas, Enters, Replies, RepliesBy, act_has, arrival_has}

-- Who presents an operation names it.

-- a request or posted write that stands and is presented
pub record Presented (o : OpId) (standing : List Carried) : Type 0 where
  pub item : Carried
  pub found : find (is_of o) standing ≡ Some item

presented_by : (rule : Rule) (board : Board) (on : ℕ) (o : OpId) (standing : List Carried) (item : Option Carried) → find (is_of o) standing ≡ item → presents_item_by rule board on (before (is_of o) standing) item ≡ true → Presented o standing
presented_by rule board on o standing None found presented = cc
presented_by rule board on o standing (Some item) found presented = record { item = item; found = found }

pub presented_at : (rule : Rule) (board : Board) (h : List Event) (on : ℕ) (k : BridgeLane) (o : OpId) → wants_by rule board h on (ByLane k) o ≡ true → (end_of board k ≡ on) × Presented o (world_by rule board h k).standing
presented_at rule board h on k o wanted =
    let standing : List Carried = (world_by rule board h k).standing in
    let parts = and_parts (end_of board k == on) (presents_by rule board on o standing) wanted in
    (let same : eqb (end_of board k) on ≡ true = parts.0 in eqb-true (end_of board k) on same, presented_by rule board on o standing (find (is_of o) standing) refl parts.1)

abbrev pub Names : (OpId → Type 0) → Carried → Type 0
Names P (Post q) = P q
Names P (Ask q slot) = P q
Names P (Done q slot outcome) = P q
Names P Room = Unit {0}
Names P (Gone slot) = Unit {0}

pub names_of : (P : OpId → Type 0) (o : OpId) (item : Carried) → is_of o item ≡ true → Names P item → P o
names_of P o (Post q) is has = subst P (sym (same_op_true o q is)) has
names_of P o (Ask q slot) is has = subst P (sym (same_op_true o q is)) has
names_of P o (Done q slot outcome) is has = cc
names_of P o Room is has = cc
names_of P o (Gone slot) is has = cc

pub names_weaker : (P Q : OpId → Type 0) → ((q : OpId) → P q → Q q) → (item : Carried) → Names P item → Names Q item
names_weaker P Q weaker (Post q) has = weaker q has
names_weaker P Q weaker (Ask q slot) has = weaker q has
names_weaker P Q weaker (Done q slot outcome) has = weaker q has
names_weaker P Q weaker Room has = tt
names_weaker P Q weaker (Gone slot) has = tt

enters_names : (P : OpId → Type 0) (o : OpId) (step : Step) → P o → Enters (Names P) o step
enters_names P o Land has = tt
enters_names P o (Part phases) has = tt
enters_names P o (Read value) has = tt
enters_names P o Accept has = has
enters_names P o Latch has = λ slot. has
enters_names P o (Take outcome) has = tt
enters_names P o Stall has = tt
enters_names P o MasterAbort has = tt
enters_names P o TargetAbort has = tt

replies_names : (P : OpId → Type 0) (o : OpId) (outcome : Option Outcome) → P o → Replies (Names P) o outcome
replies_names P o None has = tt
replies_names P o (Some outcome) has = λ slot. has

replies_by_names : (P : OpId → Type 0) (board : Board) (o : OpId) (step : Step) (by : By) → P o → RepliesBy (Names P) board o step by
replies_by_names P board o step Master has = tt
replies_by_names P board o step (ByLane k) has = replies_names P o (lane_outcome board k o step) has

-- who presents an operation
abbrev pub Entry : (OpId → Type 0) → Event → Type 0
Entry Q (Act on Master o step place) = Q o
Entry Q (Act on (ByLane k) o step place) = Unit {0}
Entry Q (Arrive lane mark) = Unit {0}

-- What an act brings to a dword is of its operation.

abbrev pub IsOf : OpId → Landing → Type 0
IsOf o landing = landing.op ≡ o

at_of : (o : OpId) (address at : ℕ) (phases : List Phase) → AllByRecursion (IsOf o) (landings_at o address at phases)
at_of o address at [] = tt
at_of o address at (phase ∷ phases) =
    let P : Bool → Type 0 = λ b. AllByRecursion (IsOf o) (cond b (record { op = o; phase = phase } ∷ []) []) in
    Each-append (IsOf o) (cond (at == address) (record { op = o; phase = phase } ∷ []) []) (landings_at o address (at + 4) phases)
    (elim (at == address) as P [ true ↦ (refl, tt) | false ↦ tt ]) (at_of o address (at + 4) phases)

in_of : (o : OpId) (word : Dword) (space : Space) (address : ℕ) (phases : List Phase) → AllByRecursion (IsOf o) (landings_in o word space address phases)
in_of o word space address phases =
    let P : Bool → Type 0 = λ b. AllByRecursion (IsOf o) (cond b (landings_at o word.address (address_in space address) phases) []) in
    elim (same_space space word.space) as P [ true ↦ at_of o word.address (address_in space address) phases | false ↦ tt ]

pub of_of : (o : OpId) (step : Step) (gone : ℕ) (word : Dword) (request : Option Request) → AllByRecursion (IsOf o) (landings_of o step gone word request)
of_of o step gone word None = tt
of_of o step gone word (Some request) =
    let rest : Request = without gone request in
    in_of o word (space_of rest.command) rest.address (brings step rest.phases)

-- what an act brings to a dword is of its operation
pub brought_of : (board : Board) (h : List Event) (on : ℕ) (o : OpId) (step : Step) (word : Dword) (place : Place) → AllByRecursion (IsOf o) (landings_by board h on o step word place)
brought_of board h on o step word (Target target) =
    let P : Bool → Type 0 = λ b. AllByRecursion (IsOf o) (cond b (landings_of o step (through h o) word (request_of board o on)) []) in
    elim (target == word.target) as P [ true ↦ of_of o step (through h o) word (request_of board o on) | false ↦ tt ]
brought_of board h on o step word (Header bus) = tt
brought_of board h on o step word (Lane lane) = tt
brought_of board h on o step word Nobody = tt

-- On the lanes, and landed.

module _ (rule : Rule) (board : Board) (h : List Event) where
  -- what a lane presents
  pub lane_named : (P : OpId → Type 0) → WorldHas (Names P) (world_by rule board h) → (on : ℕ) (k : BridgeLane) (o : OpId) → wants_by rule board h on (ByLane k) o ≡ true → P o
  lane_named P old on k o wanted =
      let here = (presented_at rule board h on k o wanted).1 in
      let standing : List Carried = (world_by rule board h k).standing in
      names_of P o here.item (find_passes (is_of o) standing here.item here.found) (Each-find (Names P) (is_of o) standing here.item (old k).1 here.found)

  module _ (P Q : OpId → Type 0) (kept : (q : OpId) → P q → Q q) (old : WorldHas (Names P) (world_by rule board h)) where
    all_kept : WorldHas (Names Q) (world_by rule board h)
    all_kept lane = (
      Each-weaker (Names P) (Names Q) (names_weaker P Q kept) (world_by rule board h lane).flight (old lane).0,
      Each-weaker (Names P) (Names Q) (names_weaker P Q kept) (world_by rule board h lane).standing (old lane).1,
    )

    pub presents_named : (on : ℕ) (by : By) (o : OpId) (step : Step) (place : Place) → RunBy rule board (Act on by o step place ∷ h) → Entry Q (Act on by o step place) → Q o
    presents_named on Master o step place run entry = entry
    presents_named on (ByLane k) o step place run entry = kept o (lane_named P old on k o run.0.0)

    pub items_after : (e : Event) → RunBy rule board (e ∷ h) → Entry Q e → WorldHas (Names Q) (world_by rule board (e ∷ h))
    items_after (Act on by o step place) run entry =
        let has : Q o = presents_named on by o step place run entry in
        act_has (Names Q) tt (λ slot. tt) rule board on by o step place (world_by rule board h) (enters_names Q o step has) (replies_by_names Q board o step by has) all_kept
    items_after (Arrive lane mark) run entry = arrival_has (Names Q) tt (λ slot. tt) rule board lane mark (world_by rule board h) all_kept

    pub landings_after : (e : Event) (word : Dword) → RunBy rule board (e ∷ h) → Entry Q e → AllByRecursion (λ (l : Landing). P l.op) (landed board h word) → AllByRecursion (λ (l : Landing). Q l.op) (landed board (e ∷ h) word)
    landings_after e word run entry landings =
        Each-append (λ (l : Landing). Q l.op) (landed board h word) (brought board h word e)
        (Each-weaker (λ (l : Landing). P l.op) (λ (l : Landing). Q l.op) (λ l has. kept l.op has) (landed board h word) landings)
        (new e run entry)
      where
        new : (e : Event) → RunBy rule board (e ∷ h) → Entry Q e → AllByRecursion (λ (l : Landing). Q l.op) (brought board h word e)
        new (Act on by o step place) run entry =
            let has : Q o = presents_named on by o step place run entry in
            Each-weaker (IsOf o) (λ (l : Landing). Q l.op) (λ l is. subst Q (sym is) has) (landings_by board h on o step word place) (brought_of board h on o step word place)
        new (Arrive lane mark) run entry = tt
