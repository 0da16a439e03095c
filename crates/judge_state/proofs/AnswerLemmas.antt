-- An operation is answered by what is kept as it is by the history.
use Rattle.std.proofs.Common.{◌≡◌, ℕ, Bool, true, false, not, ◌-◌, ◌==◌, length, List, Option, None, Some, refl, ap, ◌∙◌, arith, if◌then◌else◌}
use Rattle.std.specs.Prelude.{slice_get, nat_lt, is_some}
use Rattle.std.specs.Option.{option_map}
use Rattle.std.proofs.lemmas.Bool.Decides.{nat_tests}
use Rattle.pci_command.specs.declared.op_id.OpId.{OpId}
use Rattle.pci_command.specs.declared.request.Request.{Request}
use Rattle.pci_command.specs.Command.{space_of, is_read}
use Rattle.board_model.specs.declared.agents.Target.{Target as TargetAgent}
use Rattle.board_model.specs.declared.bridge.Bridge.{Bridge}
use Rattle.board_model.specs.declared.bridge.Lane.{Lane as BridgeLane}
use Rattle.board_model.specs.declared.bridge.Place.{Place}
use Rattle.board_model.specs.declared.bridge.Place.TheVariants.{Target, Header, Lane, Nobody}
use Rattle.board_model.specs.declared.op.Op.{Op}
use Rattle.board_model.specs.declared.board.Board.{Board}
use Rattle.board_model.specs.Requests.{op_of, request_of, request_on}
use Rattle.board_model.specs.Claims.{claim}
use Rattle.board_model.specs.Ways.{aborts_at, address_in}
use Rattle.history_model.specs.declared.event.By.{By}
use Rattle.history_model.specs.declared.event.Step.{Step}
use Rattle.history_model.specs.declared.event.Step.TheVariants.{Land, Part, Read, Stall, TargetAbort}
use Rattle.history_model.specs.declared.event.Event.{Event}
use Rattle.history_model.specs.declared.item.Answer.TheVariants.{Gives}
use Rattle.history_model.specs.declared.rule.Rule.{Rule}
use Rattle.history_model.specs.declared.rule.Rule.TheVariants.{Tagged}
use Rattle.history_model.specs.Lanes.{Both, LaneState}
use Rattle.history_model.specs.World.{World, noted, world_by}
use Rattle.history_model.specs.Words.{through, without, value_of}
use Rattle.history_model.specs.Answers as m
use Rattle.history_model.specs.Answers.{wants_by, wants, stalls_used, bridge_to, lane_answer, header_answer}
use Rattle.judge_lanes.specs.Faces.{face_answer}
use Rattle.judge_lanes.specs.Bridge.{lanes_of, turned}
use Rattle.judge_lanes.proofs.LaneLemmas.{lane_there, turned_back}
use Rattle.machine_steps.proofs.LeaveLemmas.{finds_none}
use Rattle.board_model.specs.declared.word.Word.{Word}
use Rattle.judge_state.specs.State.{KeptState, tokens_in, place_of, lanes_at, lanes_in}
use Rattle.machine_steps.specs.Counts.{or_zero}
use Rattle.judge_state.specs.Words.{place_at, value_in, value_at, dword}
use Rattle.judge_state.specs.Answer.{target_step, target_answer, face_by, face_in, answer_by, answer_to, answer_now}
use Rattle.judge_state.specs.Stands.{StandsForBy, StandsFor, CoversBy}

-- tokens are left where fewer are used
tokens_left : (used stalls : ℕ) → nat_lt 0 (stalls - used) ≡ nat_lt used stalls
tokens_left used stalls =
    let P : Bool → Type 0 = λ b. nat_lt used stalls ≡ b → nat_lt 0 (stalls - used) ≡ b in
    (elim (nat_lt used stalls) as P [ true ↦ λ fewer. grind (arith, nat_tests) | false ↦ λ not_fewer. grind (arith, nat_tests) ]) refl

-- the value of a word that is kept
value_same : (rule : Rule) (board : Board) (h : List Event) (k : KeptState) (word : Word) → StandsForBy rule board h k → is_some (place_at k.places word) ≡ true → value_at k.places k.values word ≡ value_of board h (dword word)
value_same rule board h k word stands kept =
    let P : Option ℕ → Type 0 = λ p. place_at k.places word ≡ p → is_some p ≡ true → value_in k.values p ≡ value_of board h (dword word) in
    (elim (place_at k.places word) as P [
      | None ↦ λ _ no_place. cc
      | Some place ↦ λ at _. ap or_zero (stands.words word place at)
    ]) refl kept

-- what a target answers
step_same : (rule : Rule) (board : Board) (h : List Event) (k : KeptState) (place : ℕ) (request : Request) (target : TargetAgent) → StandsForBy rule board h k → slice_get board.targets place ≡ Some target
    → (aborts_at target request ≡ false → is_read request.command ≡ true → is_some (place_at k.places (record { target = place; space = space_of request.command; address = address_in (space_of request.command) request.address })) ≡ true)
    → target_step k place request target ≡ m.target_step board h place request target
step_same rule board h k place request target stands is_target covered =
    let word : Word = record { target = place; space = space_of request.command; address = address_in (space_of request.command) request.address } in
    let left : tokens_in k.tokens place ≡ target.stalls - stalls_used h place = ap or_zero (stands.tokens place target is_target) in
    let stalled : nat_lt 0 (tokens_in k.tokens place) ≡ nat_lt (stalls_used h place) target.stalls =
    ap (λ (n : ℕ). nat_lt 0 n) left ∙ tokens_left (stalls_used h place) target.stalls in
    let write : Step = if nat_lt target.burst (length request.phases) then Part target.burst else Land in
    let other : ℕ → Step = λ value. if is_read request.command then Read value else write in
    let rest : ℕ → Step = λ value. if aborts_at target request then TargetAbort else other value in
    let now : ℕ = value_at k.places k.values word in
    let was : ℕ = value_of board h (dword word) in
    let P : Bool → Type 0 = λ a. aborts_at target request ≡ a → (if a then TargetAbort else other now) ≡ (if a then TargetAbort else other was) in
    let Q : Bool → Type 0 = λ r. aborts_at target request ≡ false → is_read request.command ≡ r → (if r then Read now else write) ≡ (if r then Read was else write) in
    let read_same : aborts_at target request ≡ false → other now ≡ other was = λ no_abort.
    (elim (is_read request.command) as Q [
      | true ↦ λ _ reads. ap (λ (v : ℕ). Read v) (value_same rule board h k word stands (covered no_abort reads))
      | false ↦ λ _ _. refl
    ]) no_abort refl in
    let same : rest now ≡ rest was = (elim (aborts_at target request) as P [ true ↦ λ _. refl | false ↦ λ no_abort. read_same no_abort ]) refl in
    ap (λ (b : Bool). if b then Stall else rest now) stalled ∙ ap (λ (s : Step). if nat_lt (stalls_used h place) target.stalls then Stall else s) same

-- the lanes of a bridge
pub lanes_same : (rule : Rule) (board : Board) (h : List Event) (k : KeptState) (bus : ℕ) (bridge : Bridge) → StandsForBy rule board h k → bridge_to board bus ≡ Some bridge → lanes_in board k.lanes bus ≡ Some (lanes_of (world_by rule board h) bus)
lanes_same rule board h k bus bridge stands is_bridge =
    let P : Option ℕ → Type 0 = λ p. place_of board bus ≡ p → lanes_at k.lanes p ≡ Some (lanes_of (world_by rule board h) bus) in
    (elim (place_of board bus) as P [
      | None ↦ λ none. (let no_bridge : bridge_to board bus ≡ None = finds_none (λ (b : Bridge). b.bus == bus) board.bridges none in absurd (cc))
      | Some place ↦ λ at. stands.lanes bus place at
    ]) refl

-- what a face answers
face_same : (rule : Rule) (board : Board) (h : List Event) (k : KeptState) (on : ℕ) (by : By) (o : OpId) (request : Request) (lane : BridgeLane) → StandsForBy rule board h k
    → face_in board k on by o request lane (bridge_to board lane.bus) (lanes_in board k.lanes lane.bus) ≡ lane_answer board (world_by rule board h) on by o request lane (bridge_to board lane.bus)
face_same rule board h k on by o request lane stands =
    let world : World = world_by rule board h in
    let P : Option Bridge → Type 0 = λ b. bridge_to board lane.bus ≡ b → face_in board k on by o request lane b (lanes_in board k.lanes lane.bus) ≡ lane_answer board world on by o request lane b in
    (elim (bridge_to board lane.bus) as P [
      | None ↦ λ _. refl
      | Some bridge ↦ λ is.
          let x : Both = lanes_of world lane.bus in
          let there = lane_there world lane x refl in
          ap (face_by board on by o request lane bridge) (lanes_same rule board h k lane.bus bridge stands is)
          ∙ (ap (λ (l : LaneState). face_answer board on by o request lane bridge l (turned lane.up x).back) there.0
          ∙ ap (face_answer board on by o request lane bridge (world lane)) (turned_back lane.up x ∙ there.1))
    ]) refl

-- who claims answers
by_same : (rule : Rule) (board : Board) (h : List Event) (k : KeptState) (on : ℕ) (by : By) (o : OpId) (request : Request) (place : Place) → StandsForBy rule board h k
    → ((t : ℕ) (target : TargetAgent) → place ≡ Target t → slice_get board.targets t ≡ Some target → aborts_at target request ≡ false → is_read request.command ≡ true
    → is_some (place_at k.places (record { target = t; space = space_of request.command; address = address_in (space_of request.command) request.address })) ≡ true)
    → answer_by board k on by o request place ≡ m.answer_by board (world_by rule board h) h on by o request place
by_same rule board h k on by o request (Header bus) stands covered = refl
by_same rule board h k on by o request Nobody stands covered = refl
by_same rule board h k on by o request (Lane lane) stands covered = face_same rule board h k on by o request lane stands
by_same rule board h k on by o request (Target t) stands covered =
    let P : Option TargetAgent → Type 0 = λ found. slice_get board.targets t ≡ found → target_answer k t request found ≡ m.target_answer board h t request found in
    (elim (slice_get board.targets t) as P [
      | None ↦ λ _. refl
      | Some target ↦ λ is. ap (λ (s : Step). Gives s (Target t)) (step_same rule board h k t request target stands is (covered t target refl is))
    ]) refl

-- the answer to what is presented, whoever is noted
noted_same : (rule : Rule) (board : Board) (h : List Event) (k : KeptState) (on : ℕ) (by noted_by : By) (o : OpId) → StandsForBy rule board h k → wants_by rule board h on by o ≡ true
    → answer_to board k on noted_by o (request_of board o on) ≡ m.answer_in board (world_by rule board h) h on noted_by o
noted_same rule board h k on by noted_by o stands wanted =
    let world : World = world_by rule board h in
    let P : Option Op → Type 0 = λ found. op_of board o ≡ found → answer_to board k on noted_by o (option_map (λ op. request_on op on) found) ≡ m.answer_to board world h on noted_by o (option_map (λ op. request_on op on) found) in
    (elim (op_of board o) as P [
      | None ↦ λ _. refl
      | Some op ↦ λ is.
          let request : Request = request_on op on in
          let requested : request_of board o on ≡ Some request = rw is refl in
          let rest : Request = without (through h o) request in
          ap (λ (n : ℕ). answer_by board k on noted_by o (without n request) (claim board on (without n request))) (ap or_zero (stands.gone o op is))
          ∙ by_same rule board h k on noted_by o rest (claim board on rest) stands (λ t target claims is_target no_abort reads. stands.covers h on by o request t target stands.run wanted requested claims is_target no_abort reads)
    ]) refl

pub answer_same_by : (rule : Rule) (board : Board) (h : List Event) (k : KeptState) (on : ℕ) (by : By) (o : OpId) → StandsForBy rule board h k → wants_by rule board h on by o ≡ true
    → answer_now board k on by o ≡ m.answer_by_rule rule board h on by o
answer_same_by rule board h k on by o stands wanted =
    ap (λ (r : Rule). answer_to board k on (noted r by) o (request_of board o on)) stands.rule_is ∙ noted_same rule board h k on by (noted rule by) o stands wanted

-- the same on bridges that keep the local master
pub answer_same : (board : Board) (h : List Event) (k : KeptState) (on : ℕ) (by : By) (o : OpId) → StandsFor board h k → CoversBy Tagged board k.places → wants board h on by o ≡ true
    → answer_now board k on by o ≡ m.answer board h on by o
answer_same board h k on by o stands covers wanted = answer_same_by Tagged board h k on by o stands wanted
