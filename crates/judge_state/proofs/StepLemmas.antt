-- What is kept goes on with an event that is allowed.
use Rattle.std.proofs.Common.{◌≡◌, ◌^◌, ℕ, Bool, true, false, ◌+◌, ◌<◌, ◌≤◌, ◌==◌, ◌&&◌, length, List, [], ◌∷◌, Option, None, Some, refl, sym, ap, subst, ◌∙◌, arith, if◌then◌else◌, Result}
use Rattle.std.specs.Prelude.{slice_get}
use Rattle.std.specs.Option.{option_map}
use Rattle.std.proofs.lemmas.Bool.Decides.{nat_tests}
use Rattle.std.proofs.lemmas.Option.{slice_get_within}
use Rattle.std.proofs.lemmas.List.{length-set}
use Rattle.pci_command.specs.declared.command.Space.{Space}
use Rattle.pci_command.specs.declared.command.Space.TheVariants.{Mem, Io, Cfg}
use Rattle.pci_command.specs.Same.{same_space}
use Rattle.pci_command.specs.Command.{space_of}
use Rattle.pci_command.specs.declared.op_id.OpId.{OpId}
use Rattle.pci_command.specs.declared.phases.Phase.{Phase}
use Rattle.pci_command.specs.declared.request.Request.{Request}
use Rattle.board_model.specs.declared.agents.Master.{Master as MasterAgent}
use Rattle.board_model.specs.declared.bridge.Place.{Place}
use Rattle.board_model.specs.declared.bridge.Place.TheVariants.{Target, Header, Lane, Nobody}
use Rattle.board_model.specs.declared.op.Op.{Op}
use Rattle.board_model.specs.declared.board.Board.{Board}
use Rattle.board_model.specs.Requests.{op_of, request_on}
use Rattle.board_model.specs.Ways.{address_in, bound_of}
use Rattle.board_model.specs.Valid.{IsValid}
use Rattle.history_model.specs.declared.event.By.TheVariants.{Master, Lane as ByLane}
use Rattle.history_model.specs.declared.event.Mark.{Mark}
use Rattle.history_model.specs.declared.event.Step.{Step}
use Rattle.history_model.specs.declared.event.Event.{Event}
use Rattle.history_model.specs.declared.event.Event.TheVariants.{Act, Arrive}
use Rattle.history_model.specs.declared.item.Answer.{Answer}
use Rattle.history_model.specs.declared.why.Why.{Why}
use Rattle.history_model.specs.declared.why.Why.TheVariants.{NotPresented, AnsweredOtherwise, GetsRetry, NothingInFlight, MarkedOtherwise}
use Rattle.history_model.specs.Program.{turn_of}
use Rattle.history_model.specs.Words.{through, without, brings, landings_at, landings_in, landings_of, merged, value_of}
use Rattle.history_model.specs.Answers.{wants_by, answer_by_rule, is_on, is_turn}
use Rattle.history_model.specs.Runs.{AllowedBy}
use Rattle.machine_steps.specs.Values.{value_merged}
use Rattle.machine_steps.specs.Verdicts.{HoldsBy, HoldsOfAct, HoldsOfArrival, cause_in}
use Rattle.machine_steps.proofs.ValueLemmas.{merged_landings, value_after_event}
use Rattle.machine_steps.proofs.VerdictLemmas.{of_act, of_arrival, allowed_exactly_by}
use Rattle.std.specs.Prelude.{IsOk}
use Rattle.board_model.specs.WellFormed.{is_well_formed}
use Rattle.history_model.specs.declared.rule.Rule.{Rule}
use Rattle.history_model.specs.Lanes.{Both}
use Rattle.history_model.specs.World.{world_by}
use Rattle.judge_lanes.specs.Bridge.{lanes_of, lanes_after}
use Rattle.judge_lanes.specs.Room.{HaveRoom}
use Rattle.judge_lanes.proofs.LaneLemmas.{lanes_after_event}
use Rattle.judge_lanes.proofs.RoomLemmas.{Counted, counted_after, room_after}
use Rattle.judge_state.specs.Rooms.{RoomAt, HaveRooms}
use Rattle.judge_state.specs.State.{place_of}
use Rattle.board_model.specs.declared.word.Word.{Word}
use Rattle.judge_state.specs.State.{KeptState, turns_next, lanes_next, gone_in, wants_now}
use Rattle.list_facts.specs.Lists.{changed_at, changed_with}
use Rattle.judge_state.specs.Words.{place_at, dword, landed_by}
use Rattle.judge_state.specs.Answer.{answer_now, HoldsNow, values_of, values_next, next_state}
use Rattle.judge_state.specs.Stands.{StandsForBy}
use Rattle.law_lanes.specs.Phases.{DelayedAreSingle}
use Rattle.judge_state.proofs.GoneLemmas.{gone_went}
use Rattle.machine_steps.specs.Counts.{or_zero}
use Rattle.judge_state.proofs.LookLemmas.{wants_same_by, mark_same_by}
use Rattle.judge_state.proofs.AnswerLemmas.{answer_same_by}
use Rattle.judge_state.proofs.GoLemmas.{lanes_went}
use Rattle.judge_state.proofs.CountLemmas.{turns_went, tokens_went}
use Rattle.judge_state.proofs.WordLemmas.{landed_there, landed_value}

-- The verdict by what is kept is that of the history.

wanted_first : (wanted : Bool) (now was : Answer) (step : Step) (place : Place) (why : Option Why) → (wanted ≡ true → now ≡ was) → HoldsOfAct wanted now step place why → HoldsOfAct wanted was step place why
wanted_first wanted now was step place None same holds = (holds.0, sym (same holds.0) ∙ holds.1)
wanted_first wanted now was step place (Some NotPresented) same holds = holds
wanted_first wanted now was step place (Some AnsweredOtherwise) same holds = let e = same holds.0 in (holds.0, rw (← e) holds.1)
wanted_first wanted now was step place (Some GetsRetry) same holds = let e = same holds.0 in (holds.0, rw (← e) holds.1)
wanted_first wanted now was step place (Some NothingInFlight) same holds = holds
wanted_first wanted now was step place (Some MarkedOtherwise) same holds = holds

pub holds_same : (rule : Rule) (board : Board) (h : List Event) (k : KeptState) (e : Event) (why : Option Why) → StandsForBy rule board h k → HoldsNow board k e why → HoldsBy rule board h e why
holds_same rule board h k (Act on by o step place) why stands holds =
    let wanted : wants_now board k on by o ≡ wants_by rule board h on by o = wants_same_by rule board h k on by o stands in
    let P : Bool → Type 0 = λ b. HoldsOfAct b (answer_now board k on by o) step place why in
    of_act rule board h on by o step place why
    (wanted_first (wants_by rule board h on by o) (answer_now board k on by o) (answer_by_rule rule board h on by o) step place why (λ it. answer_same_by rule board h k on by o stands it) (subst P wanted holds))
holds_same rule board h k (Arrive lane mark) why stands holds =
    let P : Option Mark → Type 0 = λ next. HoldsOfArrival next mark why in
    of_arrival rule board h lane mark why (subst P (mark_same_by rule board h k lane stands) holds)

-- Words.

flip_space : (a b : Space) → same_space a b ≡ same_space b a
flip_space Mem Mem = refl
flip_space Mem Io = refl
flip_space Mem Cfg = refl
flip_space Io Mem = refl
flip_space Io Io = refl
flip_space Io Cfg = refl
flip_space Cfg Mem = refl
flip_space Cfg Io = refl
flip_space Cfg Cfg = refl

-- what a write brings into a word is what its landings make of it
landed_same : (target : ℕ) (o : OpId) (step : Step) (gone : ℕ) (word : Word) (request : Request) (value : ℕ) →
    merged (dword word) value (if target == word.target then landings_of o step gone (dword word) (Some request) else [])
    ≡ (let rest = without gone request in landed_value word target (space_of rest.command) (address_in (space_of rest.command) rest.address) (brings step rest.phases) value)
landed_same target o step gone word request value =
    let rest : Request = without gone request in
    let space : Space = space_of rest.command in
    let phases : List Phase = brings step rest.phases in
    let at : ℕ = address_in space rest.address in
    let turned : (word.target == target) ≡ (target == word.target) = grind (arith, nat_tests) in
    let spaces : same_space word.space space ≡ same_space space word.space = flip_space word.space space in
    let P : Bool → Type 0 = λ t. merged (dword word) value (if t then landings_in o (dword word) space rest.address phases else []) ≡ (if t && same_space word.space space then value_merged word.space word.address at value phases else value) in
    let Q : Bool → Type 0 = λ s. same_space space word.space ≡ s → merged (dword word) value (if s then landings_at o word.address at phases else []) ≡ (if s then value_merged word.space word.address at value phases else value) in
    let inner = (elim (same_space space word.space) as Q [
      | true ↦ λ _. merged_landings word.target o word.space word.address at value phases
      | false ↦ λ _. refl
    ]) refl in
    let R : Bool → Type 0 = λ s. merged (dword word) value (landings_in o (dword word) space rest.address phases) ≡ (if s then value_merged word.space word.address at value phases else value) in
    let first = subst R (sym spaces) inner in
    let S : Bool → Type 0 = λ t. merged (dword word) value (if target == word.target then landings_of o step gone (dword word) (Some request) else []) ≡ (if t && same_space word.space space then value_merged word.space word.address at value phases else value) in
    subst S (sym turned) (elim (target == word.target) as P [ true ↦ first | false ↦ refl ])

-- the values after an event
pub values_went : (rule : Rule) (board : Board) (h : List Event) (k : KeptState) (e : Event) → StandsForBy rule board h k → (word : Word) (place : ℕ) → place_at k.places word ≡ Some place
    → slice_get (values_next board k.places k.gone e k.values) place ≡ Some (value_of board (e ∷ h) (dword word))
values_went rule board h k (Arrive lane mark) stands word place is =
    stands.words word place is ∙ ap (λ (n : ℕ). Some n) (sym (value_after_event board h (Arrive lane mark) (dword word)))
values_went rule board h k (Act on by o step (Header bus)) stands word place is =
    stands.words word place is ∙ ap (λ (n : ℕ). Some n) (sym (value_after_event board h (Act on by o step (Header bus)) (dword word)))
values_went rule board h k (Act on by o step (Lane lane)) stands word place is =
    stands.words word place is ∙ ap (λ (n : ℕ). Some n) (sym (value_after_event board h (Act on by o step (Lane lane)) (dword word)))
values_went rule board h k (Act on by o step Nobody) stands word place is =
    stands.words word place is ∙ ap (λ (n : ℕ). Some n) (sym (value_after_event board h (Act on by o step Nobody) (dword word)))
values_went rule board h k (Act on by o step (Target target)) stands word place is =
    let e : Event = Act on by o step (Target target) in
    let was : ℕ = value_of board h (dword word) in
    let P : Option Op → Type 0 = λ found. op_of board o ≡ found → slice_get (values_of k.places target step (gone_in k.gone o) (option_map (λ op. request_on op on) found) k.values) place
    ≡ Some (merged (dword word) was (if target == word.target then landings_of o step (through h o) (dword word) (option_map (λ op. request_on op on) found) else [])) in
    let after = (elim (op_of board o) as P [
      | None ↦ λ _.
          let Q : Bool → Type 0 = λ b. slice_get k.values place ≡ Some (merged (dword word) was (if b then [] else [])) in
          elim (target == word.target) as Q [ true ↦ stands.words word place is | false ↦ stands.words word place is ]
      | Some op ↦ λ there.
          let request : Request = request_on op on in
          let rest : Request = without (through h o) request in
          let gone : gone_in k.gone o ≡ through h o = ap or_zero (stands.gone o op there) in
          let landed = landed_there k.places stands.apart word place is target (space_of rest.command) (address_in (space_of rest.command) rest.address) (brings step rest.phases) k.values was (stands.words word place is) in
          let same = landed_same target o step (through h o) word request was in
          ap (λ (n : ℕ). slice_get (landed_by k.places target step n request k.values) place) gone ∙ (landed ∙ ap (λ (n : ℕ). Some n) (sym same))
    ]) refl in
    after ∙ ap (λ (n : ℕ). Some n) (sym (value_after_event board h e (dword word)))

-- a master that presents is one of the board
master_there : (rule : Rule) (board : Board) (h : List Event) (k : KeptState) (e : Event) → StandsForBy rule board h k → AllowedBy rule board h e → (on : ℕ) (o : OpId) (step : Step) (place : Place) → e ≡ Act on Master o step place → o.master < length k.turns
master_there rule board h k e stands allowed on o step place is =
    let allowed_act : AllowedBy rule board h (Act on Master o step place) = subst (AllowedBy rule board h) is allowed in
    let P : Option MasterAgent → Type 0 = λ found. slice_get board.masters o.master ≡ found → (is_on on found && is_turn o (turn_of board h o.master)) ≡ true → o.master < length board.masters in
    let within = (elim (slice_get board.masters o.master) as P [
      | None ↦ λ _ never. cc
      | Some master ↦ λ found _. slice_get_within board.masters o.master master found
    ]) refl allowed_act.0 in
    omega (arith, within, stands.masters)

length-changed : {X : Type 0} (f : X → X) (xs : List X) (place : ℕ) → length (changed_at f xs (Some place)) ≡ length xs
length-changed {X = X} f xs place =
    let P : Option X → Type 0 = λ x. length (changed_with f xs place x) ≡ length xs in
    elim (slice_get xs place) as P [ None ↦ refl | Some x ↦ length-set xs place (f x) ]

length-turns : (board : Board) (e : Event) (turns : List (Option OpId)) → length (turns_next board e turns) ≡ length turns
length-turns board (Arrive lane mark) turns = refl
length-turns board (Act on (ByLane lane) o step place) turns = refl
length-turns board (Act on Master o step place) turns = length-changed _ turns o.master

-- the state goes on
pub stands_after : (rule : Rule) (board : Board) (h : List Event) (k : KeptState) (e : Event) → DelayedAreSingle board → StandsForBy rule board h k → AllowedBy rule board h e → StandsForBy rule board (e ∷ h) (next_state board e k)
stands_after rule board h k e single stands allowed =
    record {
      rule_is = stands.rule_is;
      run = (allowed, stands.run);
      turns = turns_went board h e k.turns stands.turns (master_there rule board h k e stands allowed);
      masters = length-turns board e k.turns ∙ stands.masters;
      lanes = λ bus place at.
          subst (λ (r : Rule). slice_get (lanes_next r board e k.lanes) place ≡ Some (lanes_of (world_by rule board (e ∷ h)) bus)) (sym stands.rule_is)
          (lanes_went rule board h e k.lanes bus place at (stands.lanes bus place at));
      tokens = λ place target is. tokens_went h e k.tokens place target (stands.tokens place target is);
      gone = gone_went rule board h k.gone e single stands.gone stands.run allowed;
      words = values_went rule board h k e stands;
      apart = stands.apart;
      covers = stands.covers;
    }

-- Room.

-- a run of a valid board has few events
pub few_events : (board : Board) (h : List Event) → IsValid board → length h ≤ bound_of board → length h < 2 ^ 32
few_events board h valid bounded =
    let most = valid.bound in
    grind (arith, nat_tests)

counted_run : (rule : Rule) (board : Board) (h : List Event) (bus : ℕ) → Counted (length h) (lanes_of (world_by rule board h) bus)
counted_run rule board [] bus = record { asks_here = omega arith; dones_here = omega arith; asks_back = omega arith; dones_back = omega arith }
counted_run rule board (e ∷ h) bus =
    let x : Both = lanes_of (world_by rule board h) bus in
    let goes : lanes_of (world_by rule board (e ∷ h)) bus ≡ lanes_after rule board e bus x = lanes_after_event rule board (world_by rule board h) e bus in
    let more : length h + 1 ≡ length (e ∷ h) = omega arith in
    let P : ℕ → Type 0 = λ n. Counted n (lanes_of (world_by rule board (e ∷ h)) bus) in
    subst P more (subst (λ (y : Both). Counted (length h + 1) y) (sym goes) (counted_after (length h) rule board e bus x (counted_run rule board h bus)))

pub rooms_there : (rule : Rule) (board : Board) (h : List Event) (k : KeptState) → is_well_formed board ≡ true → length h < 2 ^ 32 → StandsForBy rule board h k → HaveRooms board k.lanes
rooms_there rule board h k formed few stands bus =
    let P : Option ℕ → Type 0 = λ p. place_of board bus ≡ p → RoomAt k.lanes p in
    (elim (place_of board bus) as P [
      | None ↦ λ _. tt
      | Some place ↦ λ at x is.
          let there : slice_get k.lanes place ≡ Some (lanes_of (world_by rule board h) bus) = stands.lanes bus place at in
          let same : lanes_of (world_by rule board h) bus ≡ x = cc in
          subst (λ (y : Both). HaveRoom 2 y) same (room_after rule board h bus (length h) formed stands.run (counted_run rule board h bus) (omega arith))
    ]) refl

-- a verdict that is none is that the event is allowed
ok_allowed : (rule : Rule) (board : Board) (h : List Event) (e : Event) (r : Result (Unit {0}) Why) → HoldsBy rule board h e (cause_in r) → IsOk r → AllowedBy rule board h e
ok_allowed rule board h e r holds is = (allowed_exactly_by rule board h e r holds).0 is
