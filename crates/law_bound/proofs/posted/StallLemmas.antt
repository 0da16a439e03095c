-- A stall uses up a stall token of the target that claims.
use Rattle.std.proofs.Common.{◌≡◌, ℕ, ◌+◌, ◌-◌, ◌<◌, ◌≤◌, Bool, true, false, cond, eqb, nat_lt, List, ◌∷◌, length, Option, Some, None, refl, sym, ap, subst, ◌∙◌, arith, slice_get}
use Rattle.std.specs.List.{find, list_all}
use Rattle.std.proofs.lemmas.Bool.Decides.{nat_tests}
use Rattle.list_facts.specs.Lists.{before, total}
use Rattle.pci_command.specs.declared.request.Request.{Request}
use Rattle.pci_command.specs.declared.op_id.OpId.{OpId}
use Rattle.pci_command.specs.Command.{is_read, space_of}
use Rattle.board_model.specs.declared.agents.Target.{Target as TargetAgent}
use Rattle.board_model.specs.declared.bridge.Bridge.{Bridge}
use Rattle.board_model.specs.declared.bridge.Lane.{Lane as BridgeLane}
use Rattle.board_model.specs.declared.bridge.Place.{Place}
use Rattle.board_model.specs.declared.bridge.Place.TheVariants.{Target, Header, Lane, Nobody}
use Rattle.board_model.specs.declared.board.Board.{Board}
use Rattle.board_model.specs.Requests.{request_of, is_posted}
use Rattle.board_model.specs.Claims.{claim}
use Rattle.board_model.specs.Ways.{aborts_at, address_in, lane_back}
use Rattle.history_model.specs.declared.event.By.{By}
use Rattle.history_model.specs.declared.event.By.TheVariants.{Master, Lane as ByLane}
use Rattle.history_model.specs.declared.event.Step.{Step}
use Rattle.history_model.specs.declared.event.Step.TheVariants.{Land, Part, Read, Accept, Latch, Take, Stall, TargetAbort}
use Rattle.history_model.specs.declared.event.Event.{Event}
use Rattle.history_model.specs.declared.event.Event.TheVariants.{Act}
use Rattle.history_model.specs.declared.item.Carried.{Carried}
use Rattle.history_model.specs.declared.item.Carried.TheVariants.{Post, Ask, Done, Room, Gone}
use Rattle.history_model.specs.declared.item.Slot.{Slot}
use Rattle.history_model.specs.declared.item.Answer.{Answer}
use Rattle.history_model.specs.declared.item.Answer.TheVariants.{Gives, Retry}
use Rattle.history_model.specs.declared.item.Cause.TheVariants.{Full, NoSlot, Behind}
use Rattle.history_model.specs.Lanes.{is_done_for}
use Rattle.history_model.specs.World.{World, is_own, world_of}
use Rattle.history_model.specs.Program.{turn_of}
use Rattle.history_model.specs.Words.{through, without, value_of}
use Rattle.history_model.specs.Answers.{stalls_used, target_step, target_answer, header_answer, completion_passes, completion_answer, delayed_answer, posted_answer, lane_answer, bridge_to, answer_by, answer_to, answer}
use Rattle.history_model.specs.Left.{bridge_left, stalls_left, left_of}
use Rattle.history_model.specs.Steps.{is_stall}
use Rattle.law_bound.proofs.posted.SumLemmas.{from-one, stalls_from}
use Rattle.law_bound.proofs.posted.AlikeLemmas.{AlikeWorlds, Alike-self}
use Rattle.law_bound.proofs.posted.ProgramLemmas.{world_weight, programs_fall, lanes_fall, left_falls}

-- Only a target stalls.

-- an answer that is no stall
abbrev NoStall : Answer → Type 0
NoStall (Gives step place) = is_stall step ≡ false
NoStall (Retry cause) = Unit {0}

-- the answer of a completion is none
completion_no_stall : (board : Board) (read : Bool) (lane : BridgeLane) (older : List Carried) (item : Option Carried) → NoStall (completion_answer board read lane older item)
completion_no_stall board read lane older None = tt
completion_no_stall board read lane older (Some (Post op)) = tt
completion_no_stall board read lane older (Some (Ask op slot)) = tt
completion_no_stall board read lane older (Some (Done op slot outcome)) =
    let P : Bool → Type 0 = λ b. NoStall (cond b (Gives (Take outcome) (Lane lane)) (Retry Behind)) in
    elim (list_all (completion_passes board read) older) as P [ true ↦ refl | false ↦ tt ]
completion_no_stall board read lane older (Some Room) = tt
completion_no_stall board read lane older (Some (Gone slot)) = tt

-- nor is what a bridge answers a delayed request
delayed_no_stall : (board : Board) (read : Bool) (depth : ℕ) (lane : BridgeLane) (held : List Slot) (coming : List Carried) (own : Option Slot) → NoStall (delayed_answer board read depth lane held coming own)
delayed_no_stall board read depth lane held coming None =
    let P : Bool → Type 0 = λ b. NoStall (cond b (Gives Latch (Lane lane)) (Retry NoSlot)) in
    elim (nat_lt (length held) depth) as P [ true ↦ refl | false ↦ tt ]
delayed_no_stall board read depth lane held coming (Some slot) =
    completion_no_stall board read lane (before (is_done_for slot.number) coming) (find (is_done_for slot.number) coming)

-- nor what it answers a posted write
posted_no_stall : (owed depth : ℕ) (lane : BridgeLane) → NoStall (posted_answer owed depth lane)
posted_no_stall owed depth lane =
    let P : Bool → Type 0 = λ b. NoStall (cond b (Gives Accept (Lane lane)) (Retry Full)) in
    elim (nat_lt owed depth) as P [ true ↦ refl | false ↦ tt ]

-- so no lane stalls
lane_no_stall : (board : Board) (world : World) (on : ℕ) (by : By) (o : OpId) (request : Request) (lane : BridgeLane) (found : Option Bridge) → NoStall (lane_answer board world on by o request lane found)
lane_no_stall board world on by o request lane None = refl
lane_no_stall board world on by o request lane (Some bridge) =
    let coming : List Carried = (world (lane_back lane)).standing in
    let own : Option Slot = find (is_own board on by o) (world lane).held in
    let P : Bool → Type 0 = λ b. NoStall (cond b (posted_answer (world lane).owed bridge.posted lane) (delayed_answer board (is_read request.command) bridge.delayed lane (world lane).held coming own)) in
    elim (is_posted request) as P [
      | true ↦ posted_no_stall (world lane).owed bridge.posted lane
      | false ↦ delayed_no_stall board (is_read request.command) bridge.delayed lane (world lane).held coming own
    ]

-- nor does a header
header_no_stall : (bus : ℕ) (request : Request) (found : Option Bridge) → NoStall (header_answer bus request found)
header_no_stall bus request None = refl
header_no_stall bus request (Some bridge) = refl

-- what does not stall is no stall
stalls_not : (given : Answer) (at : Place) → given ≡ Gives Stall at → NoStall given → ⊥
stalls_not given at is none = let impossible : true ≡ false = subst NoStall is none in cc

-- a target with a stall token left
record StallsAt (board : Board) (h : List Event) (at : Place) : Type 0 where
  place : ℕ
  target : TargetAgent
  is : at ≡ Target place
  is_target : slice_get board.targets place ≡ Some target
  token : stalls_used h place < target.stalls

-- a target stalls only while a token is left
target_stalls : (board : Board) (h : List Event) (place : ℕ) (request : Request) (target : TargetAgent) (at : Place) → slice_get board.targets place ≡ Some target
    → Gives (target_step board h place request target) (Target place) ≡ Gives Stall at → StallsAt board h at
target_stalls board h place request target at is gives =
    let long : ℕ = length request.phases in
    let reads : Step = Read (value_of board h (record { target = place; space = space_of request.command; address = address_in (space_of request.command) request.address })) in
    let A : Bool → Type 0 = λ b. is_stall (cond b (Part target.burst) Land) ≡ false in
    let a : A (nat_lt target.burst long) = elim (nat_lt target.burst long) as A [ true ↦ refl | false ↦ refl ] in
    let B : Bool → Type 0 = λ b. is_stall (cond b reads (cond (nat_lt target.burst long) (Part target.burst) Land)) ≡ false in
    let b : B (is_read request.command) = elim (is_read request.command) as B [ true ↦ refl | false ↦ a ] in
    let C : Bool → Type 0 = λ c. is_stall (cond c TargetAbort (cond (is_read request.command) reads (cond (nat_lt target.burst long) (Part target.burst) Land))) ≡ false in
    let c : C (aborts_at target request) = elim (aborts_at target request) as C [ true ↦ refl | false ↦ b ] in
    let rest : Step = cond (aborts_at target request) TargetAbort (cond (is_read request.command) reads (cond (nat_lt target.burst long) (Part target.burst) Land)) in
    let step : target_step board h place request target ≡ Stall = cc in
    let D : Bool → Type 0 = λ d. nat_lt (stalls_used h place) target.stalls ≡ d → cond d Stall rest ≡ Stall → stalls_used h place < target.stalls in
    let token : stalls_used h place < target.stalls = (elim (nat_lt (stalls_used h place) target.stalls) as D [
      | true ↦ λ below _. grind (arith, nat_tests)
      | false ↦ λ _ e. let impossible : false ≡ true = sym c ∙ ap is_stall e in cc
    ]) refl step in
    record { place = place; target = target; is = cc; is_target = is; token = token }

-- a target that is there
target_found : (board : Board) (h : List Event) (place : ℕ) (request : Request) (found : Option TargetAgent) (at : Place) → slice_get board.targets place ≡ found
    → target_answer board h place request found ≡ Gives Stall at → StallsAt board h at
target_found board h place request None at is gives = cc
target_found board h place request (Some target) at is gives = target_stalls board h place request target at is gives

-- by who claims
place_stalls : (board : Board) (h : List Event) (on : ℕ) (by : By) (o : OpId) (request : Request) (place at : Place) → answer_by board (world_of board h) h on by o request place ≡ Gives Stall at → StallsAt board h at
place_stalls board h on by o request (Target place) at gives = target_found board h place request (slice_get board.targets place) at refl gives
place_stalls board h on by o request (Header bus) at gives = absurd (stalls_not (header_answer bus request (bridge_to board bus)) at gives (header_no_stall bus request (bridge_to board bus)))
place_stalls board h on by o request (Lane lane) at gives =
    absurd (stalls_not (lane_answer board (world_of board h) on by o request lane (bridge_to board lane.bus)) at gives (lane_no_stall board (world_of board h) on by o request lane (bridge_to board lane.bus)))
place_stalls board h on by o request Nobody at gives = cc

-- so any operation that is stalled
answered_stalls : (board : Board) (h : List Event) (on : ℕ) (by : By) (o : OpId) (at : Place) → answer board h on by o ≡ Gives Stall at → StallsAt board h at
answered_stalls board h on by o at gives =
    let P : Option Request → Type 0 = λ some. answer_to board (world_of board h) h on by o some ≡ Gives Stall at → StallsAt board h at in
    (elim (request_of board o on) as P [
      | None ↦ λ e. cc
      | Some request ↦ λ e. let rest : Request = without (through h o) request in place_stalls board h on by o rest (claim board on rest) at e
    ]) gives

-- The event.

-- a stall changes nothing on the lanes
stall_alike : (board : Board) (h : List Event) (on : ℕ) (by : By) (o : OpId) (place : ℕ) → AlikeWorlds (world_of board (Act on by o Stall (Target place) ∷ h)) (world_of board h)
stall_alike board h on Master o place = λ l. Alike-self (world_of board h l)
stall_alike board h on (ByLane lane) o place = λ l. Alike-self (world_of board h l)

-- no turn
stall_turn : (board : Board) (h : List Event) (on : ℕ) (by : By) (o : OpId) (place i : ℕ) → turn_of board (Act on by o Stall (Target place) ∷ h) i ≡ turn_of board h i
stall_turn board h on Master o place i = refl
stall_turn board h on (ByLane lane) o place i = refl

-- no weight of a lane
stall_weight : (board : Board) (h : List Event) (on : ℕ) (by : By) (o : OpId) (place : ℕ) → world_weight board h (world_of board (Act on by o Stall (Target place) ∷ h)) ≡ total (bridge_left board h) board.bridges
stall_weight board h on Master o place = refl
stall_weight board h on (ByLane lane) o place = refl

-- but one token is used up
token_used : (board : Board) (h : List Event) (on : ℕ) (by : By) (o : OpId) (place : ℕ) (target : TargetAgent) → slice_get board.targets place ≡ Some target → stalls_used h place < target.stalls
    → stalls_left (Act on by o Stall (Target place) ∷ h) 0 board.targets + 1 ≤ stalls_left h 0 board.targets
token_used board h on by o place target is token =
    let new : List Event = Act on by o Stall (Target place) ∷ h in
    let f : ℕ → TargetAgent → ℕ = λ i target. target.stalls - stalls_used new i in
    let g : ℕ → TargetAgent → ℕ = λ i target. target.stalls - stalls_used h i in
    let each : (i : ℕ) (other : TargetAgent) → eqb place i ≡ false → f i other ≤ g i other = λ i other _. omega arith in
    let self : eqb place place ≡ true = grind (arith, nat_tests) in
    let one_more : stalls_used new place ≡ 1 + stalls_used h place = rw self refl in
    let falls : f place target + 1 ≤ g place target = omega (arith, one_more, token) in
    omega (arith, stalls_from new 0 board.targets, stalls_from h 0 board.targets, from-one f g place target 1 each falls 0 board.targets place (omega arith) is)

-- so less is left
at_target : (board : Board) (h : List Event) (on : ℕ) (by : By) (o : OpId) (place : ℕ) (target : TargetAgent) → slice_get board.targets place ≡ Some target → stalls_used h place < target.stalls
    → left_of board (Act on by o Stall (Target place) ∷ h) + 1 ≤ left_of board h
at_target board h on by o place target is token =
    let e : Event = Act on by o Stall (Target place) in
    let alike = stall_alike board h on by o place in
    left_falls board h e alike 0 0 0 1
    (omega (arith, programs_fall board h e alike (stall_turn board h on by o place)))
    (omega (arith, lanes_fall board h e alike, stall_weight board h on by o place))
    (token_used board h on by o place target is token)
    (omega arith)

-- a stall of any operation lowers what is left
pub stalls_lower : (board : Board) (h : List Event) (on : ℕ) (by : By) (o : OpId) (at : Place) → answer board h on by o ≡ Gives Stall at → left_of board (Act on by o Stall at ∷ h) + 1 ≤ left_of board h
stalls_lower board h on by o at gives =
    let stalls = answered_stalls board h on by o at gives in
    subst (λ p. left_of board (Act on by o Stall p ∷ h) + 1 ≤ left_of board h) (sym stalls.is) (at_target board h on by o stalls.place stalls.target stalls.is_target stalls.token)
