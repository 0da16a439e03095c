-- What landed whole brought a data phase to each of its words.
use Rattle.std.proofs.Common.{◌≡◌, ℕ, zero, suc, ◌+◌, ◌-◌, ◌*◌, ◌<◌, ◌≤◌, Bool, true, false, ◌&&◌, eqb, cond, nat_lt, List, [], ◌∷◌, ◌++◌, length, take, drop, Option, Some, None, refl, sym, subst, ◌∙◌, arith, slice_get}
use Rattle.std.specs.List.{find, list_any, list_all}
use Rattle.list_facts.specs.Lists.{before}
use Rattle.std.proofs.lemmas.List.{length-drop, length-take}
use Rattle.std.proofs.lemmas.Bool.Decides.{nat_tests}
use Rattle.pci_command.specs.declared.command.Space.{Space}
use Rattle.pci_command.specs.declared.command.Space.TheVariants.{Mem, Io, Cfg}
use Rattle.pci_command.specs.declared.phases.Phase.{Phase}
use Rattle.pci_command.specs.declared.request.Request.{Request}
use Rattle.pci_command.specs.declared.op_id.OpId.{OpId}
use Rattle.pci_command.specs.Command.{is_read, space_of}
use Rattle.pci_command.specs.Same.{same_op, same_space}
use Rattle.board_model.specs.declared.agents.Target.{Target as TargetAgent}
use Rattle.board_model.specs.declared.bridge.Bridge.{Bridge}
use Rattle.board_model.specs.declared.bridge.Lane.{Lane as BridgeLane}
use Rattle.board_model.specs.declared.bridge.Place.{Place}
use Rattle.board_model.specs.declared.bridge.Place.TheVariants.{Target, Header, Lane, Nobody}
use Rattle.board_model.specs.declared.op.Op.{Op}
use Rattle.board_model.specs.declared.board.Board.{Board}
use Rattle.board_model.specs.Requests.{op_of, command_of, phases_of, request_on, request_of, is_posted}
use Rattle.board_model.specs.Claims.{claim}
use Rattle.board_model.specs.Ways.{Dword, address_in, aborts_at, lane_back}
use Rattle.history_model.specs.declared.event.By.{By}
use Rattle.history_model.specs.declared.event.Step.{Step}
use Rattle.history_model.specs.declared.event.Step.TheVariants.{Land, Part, Read, Accept, Latch, Take, Stall, MasterAbort, TargetAbort}
use Rattle.history_model.specs.declared.event.Event.{Event}
use Rattle.history_model.specs.declared.event.Event.TheVariants.{Act, Arrive}
use Rattle.history_model.specs.declared.item.Answer.{Answer}
use Rattle.history_model.specs.declared.item.Answer.TheVariants.{Gives, Retry}
use Rattle.history_model.specs.declared.item.Cause.TheVariants.{Full, NoSlot, Behind}
use Rattle.history_model.specs.declared.item.Carried.{Carried}
use Rattle.history_model.specs.declared.item.Carried.TheVariants.{Post, Ask, Done, Room, Gone}
use Rattle.history_model.specs.declared.item.Slot.{Slot}
use Rattle.history_model.specs.Lanes.{is_done_for}
use Rattle.history_model.specs.World.{World, is_own, world_of}
use Rattle.history_model.specs.Answers.{stalls_used, target_step, target_answer, header_answer, completion_answer, delayed_answer, posted_answer, lane_answer, completion_passes, bridge_to, answer_by, answer_to, answer}
use Rattle.history_model.specs.Words.{phases_parted, through, without, brings, Landing, landings_at, landings_of, landings_by, brought, landed, value_of}
use Rattle.history_model.specs.Knowledge.{is_land_step, is_land_of, has_landed, is_landing_of}
use Rattle.history_model.specs.Runs.{Run}
use Rattle.std.proofs.lemmas.Bool.{or_left, or_right}
use Rattle.std.proofs.lemmas.List.Folds.{list_any-append}
use Rattle.history_model.proofs.facts.RequestLemmas.{same_op_true, same_op_self}
use Rattle.law_fresh.proofs.Laws.{or_either}

-- Of data phases from an address on, the one so many dwords further is brought there.

hits : (o : OpId) (at j : ℕ) (phases : List Phase) → j < length phases → list_any (is_landing_of o) (landings_at o (at + 4 * j) at phases) ≡ true
hits o at j [] below = absurd (omega (arith, below))
hits o at zero (phase ∷ phases) below =
    let here : eqb at (at + 4 * 0) ≡ true = grind (arith, nat_tests) in
    let self = same_op_self o in
    let first : List Landing = record { op = o; phase = phase } ∷ [] in
    let rest : List Landing = landings_at o (at + 4 * 0) (at + 4) phases in
    let F : Bool → Type 0 = λ b. list_any (is_landing_of o) (cond b first [] ++ rest) ≡ true in
    let one : list_any (is_landing_of o) first ≡ true = or_left (same_op o o) false self in
    let there : F true = list_any-append (is_landing_of o) first rest ∙ or_left (list_any (is_landing_of o) first) (list_any (is_landing_of o) rest) one in
    subst F (sym here) there
hits o at (suc j) (phase ∷ phases) below =
    let address : ℕ = at + 4 * suc j in
    let further : at + 4 + 4 * j ≡ address = omega arith in
    let first : List Landing = cond (eqb at address) (record { op = o; phase = phase } ∷ []) [] in
    let rest : List Landing = landings_at o address (at + 4) phases in
    let later : list_any (is_landing_of o) rest ≡ true = subst (λ a. list_any (is_landing_of o) (landings_at o a (at + 4) phases) ≡ true) further (hits o (at + 4) j phases (omega (arith, below))) in
    list_any-append (is_landing_of o) first rest ∙ or_right (list_any (is_landing_of o) first) (list_any (is_landing_of o) rest) later

-- A target that takes data phases is the one that claims.

abbrev pub is_taken : Step → Bool
is_taken Land = true
is_taken (Part phases) = true
is_taken (Read value) = false
is_taken Accept = false
is_taken Latch = false
is_taken (Take outcome) = false
is_taken Stall = false
is_taken MasterAbort = false
is_taken TargetAbort = false

-- data phases are taken by this target alone
abbrev TakenAt : Request → Place → Answer → Type 0
TakenAt request claimant (Gives step at) = is_taken step ≡ true → (place : ℕ) × (claimant ≡ Target place) × (at ≡ Target place) × (is_read request.command ≡ false)
TakenAt request claimant (Retry cause) = Unit {0}

not_taken : (request : Request) (claimant : Place) (step : Step) (at : Place) → is_taken step ≡ false → TakenAt request claimant (Gives step at)
not_taken request claimant step at none = λ is. let e : true ≡ false = sym is ∙ none in cc

step_writes : (board : Board) (h : List Event) (place : ℕ) (request : Request) (target : TargetAgent) → is_taken (target_step board h place request target) ≡ true → is_read request.command ≡ false
step_writes board h place request target taken =
    let reads : Step = Read (value_of board h (record { target = place; space = space_of request.command; address = address_in (space_of request.command) request.address })) in
    let last : Step = cond (nat_lt target.burst (length request.phases)) (Part target.burst) Land in
    let B : Bool → Type 0 = λ b. is_taken (cond b reads last) ≡ true → b ≡ false in
    let b : B (is_read request.command) = elim (is_read request.command) as B [ true ↦ λ is. cc | false ↦ λ _. refl ] in
    let C : Bool → Type 0 = λ c. is_taken (cond c TargetAbort (cond (is_read request.command) reads last)) ≡ true → is_read request.command ≡ false in
    let c : C (aborts_at target request) = elim (aborts_at target request) as C [ true ↦ λ is. cc | false ↦ b ] in
    let D : Bool → Type 0 = λ d. is_taken (cond d Stall (cond (aborts_at target request) TargetAbort (cond (is_read request.command) reads last))) ≡ true → is_read request.command ≡ false in
    (elim (nat_lt (stalls_used h place) target.stalls) as D [ true ↦ λ is. cc | false ↦ c ]) taken

target_taken : (board : Board) (h : List Event) (place : ℕ) (request : Request) (found : Option TargetAgent) → TakenAt request (Target place) (target_answer board h place request found)
target_taken board h place request None = not_taken request (Target place) MasterAbort Nobody refl
target_taken board h place request (Some target) = λ is. (place, refl, refl, step_writes board h place request target is)

header_taken : (bus : ℕ) (request : Request) (found : Option Bridge) → TakenAt request (Header bus) (header_answer bus request found)
header_taken bus request None = not_taken request (Header bus) MasterAbort Nobody refl
header_taken bus request (Some bridge) = λ is. cc

completion_taken : (board : Board) (request : Request) (claimant : Place) (read : Bool) (lane : BridgeLane) (older : List Carried) (item : Option Carried) → TakenAt request claimant (completion_answer board read lane older item)
completion_taken board request claimant read lane older None = tt
completion_taken board request claimant read lane older (Some (Post op)) = tt
completion_taken board request claimant read lane older (Some (Ask op slot)) = tt
completion_taken board request claimant read lane older (Some (Done op slot outcome)) =
    let P : Bool → Type 0 = λ b. TakenAt request claimant (cond b (Gives (Take outcome) (Lane lane)) (Retry Behind)) in
    elim (list_all (completion_passes board read) older) as P [ true ↦ λ is. cc | false ↦ tt ]
completion_taken board request claimant read lane older (Some Room) = tt
completion_taken board request claimant read lane older (Some (Gone slot)) = tt

delayed_taken : (board : Board) (request : Request) (claimant : Place) (read : Bool) (depth : ℕ) (lane : BridgeLane) (held : List Slot) (coming : List Carried) (own : Option Slot) → TakenAt request claimant (delayed_answer board read depth lane held coming own)
delayed_taken board request claimant read depth lane held coming None =
    let P : Bool → Type 0 = λ b. TakenAt request claimant (cond b (Gives Latch (Lane lane)) (Retry NoSlot)) in
    elim (nat_lt (length held) depth) as P [ true ↦ λ is. cc | false ↦ tt ]
delayed_taken board request claimant read depth lane held coming (Some slot) =
    completion_taken board request claimant read lane (before (is_done_for slot.number) coming) (find (is_done_for slot.number) coming)

lane_taken : (claimant : Place) (board : Board) (world : World) (on : ℕ) (by : By) (o : OpId) (request : Request) (lane : BridgeLane) (found : Option Bridge) → TakenAt request claimant (lane_answer board world on by o request lane found)
lane_taken claimant board world on by o request lane None = λ is. cc
lane_taken claimant board world on by o request lane (Some bridge) =
    let one : Answer = posted_answer (world lane).owed bridge.posted lane in
    let own : Option Slot = find (is_own board on by o) (world lane).held in
    let other : Answer = delayed_answer board (is_read request.command) bridge.delayed lane (world lane).held (world (lane_back lane)).standing own in
    let P : Bool → Type 0 = λ b. TakenAt request claimant (cond b one other) in
    let Q : Bool → Type 0 = λ b. TakenAt request claimant (cond b (Gives Accept (Lane lane)) (Retry Full)) in
    elim (is_posted request) as P [
      | true ↦ elim (nat_lt (world lane).owed bridge.posted) as Q [ true ↦ λ is. cc | false ↦ tt ]
      | false ↦ delayed_taken board request claimant (is_read request.command) bridge.delayed lane (world lane).held (world (lane_back lane)).standing own
    ]

claimant_taken : (board : Board) (h : List Event) (on : ℕ) (by : By) (o : OpId) (request : Request) (claimant : Place) → TakenAt request claimant (answer_by board (world_of board h) h on by o request claimant)
claimant_taken board h on by o request (Target place) = target_taken board h place request (slice_get board.targets place)
claimant_taken board h on by o request (Header bus) = header_taken bus request (bridge_to board bus)
claimant_taken board h on by o request (Lane lane) = lane_taken (Lane lane) board (world_of board h) on by o request lane (bridge_to board lane.bus)
claimant_taken board h on by o request Nobody = λ is. cc

-- whoever answers takes data phases at the target that claims what is left
pub taken_at : (board : Board) (h : List Event) (on : ℕ) (by : By) (o : OpId) (request : Request) (step : Step) (at : Place) → request_of board o on ≡ Some request → answer board h on by o ≡ Gives step at → is_taken step ≡ true
    → (place : ℕ) × (claim board on (without (through h o) request) ≡ Target place) × (at ≡ Target place) × (is_read request.command ≡ false)
taken_at board h on by o request step at requested gives taken =
    let rest : Request = without (through h o) request in
    let claimant : Place = claim board on rest in
    let F : Option Request → Type 0 = λ found. answer_to board (world_of board h) h on by o found ≡ Gives step at in
    let answered : answer_by board (world_of board h) h on by o rest claimant ≡ Gives step at = subst F requested gives in
    let there : TakenAt rest claimant (Gives step at) = subst (TakenAt rest claimant) answered (claimant_taken board h on by o rest claimant) in
    there taken

same_space_self : (space : Space) → same_space space space ≡ true
same_space_self Mem = refl
same_space_self Io = refl
same_space_self Cfg = refl

module _ (board : Board) (w : OpId) (op : Op) (is_op : op_of board w ≡ Some op) (target base : ℕ) where
  abbrev space : Space
  space = space_of (command_of op)

  abbrev word : ℕ → Dword
  word i = record { target = target; space = space; address = base + 4 * i }

  -- where data phases of it are taken, the words of what is left begin there
  pub record Comes (h : List Event) (on : ℕ) (at : Place) : Type 0 where
    pub is_at : at ≡ Target target
    pub based : address_in space ((request_on op on).address + 4 * through h w) ≡ base + 4 * through h w

  abbrev pub Always : Type 0
  Always = (h : List Event) (on : ℕ) (by : By) (step : Step) (at : Place) → Run board (Act on by w step at ∷ h) → is_taken step ≡ true → Comes h on at

  module _ (always : Always) where
    -- what an event brings
    event_brings : (h : List Event) (on : ℕ) (by : By) (step : Step) (at : Place) (i : ℕ) → Run board (Act on by w step at ∷ h) → is_taken step ≡ true → through h w ≤ i
        → i < through h w + length (brings step (drop (through h w) (phases_of op))) → list_any (is_landing_of w) (brought board h (word i) (Act on by w step at)) ≡ true
    event_brings h on by step at i run taken from upto =
        let gone : ℕ = through h w in
        let comes = always h on by step at run taken in
        let phases : List Phase = brings step (drop gone (phases_of op)) in
        let start : ℕ = address_in space ((request_on op on).address + 4 * gone) in
        let j : ℕ = i - gone in
        let below : j < length phases = omega (arith, from, upto) in
        let hit : list_any (is_landing_of w) (landings_at w (start + 4 * j) start phases) ≡ true = hits w start j phases below in
        let there : start + 4 * j ≡ base + 4 * i = let based = comes.based in omega (arith, based, from) in
        let A : ℕ → Type 0 = λ a. list_any (is_landing_of w) (landings_at w a start phases) ≡ true in
        let at_word : A (base + 4 * i) = subst A there hit in
        let S : Bool → Type 0 = λ b. list_any (is_landing_of w) (cond b (landings_at w (base + 4 * i) start phases) []) ≡ true in
        let in_space : S (same_space space space) = subst S (sym (same_space_self space)) at_word in
        let requested : request_of board w on ≡ Some (request_on op on) = rw is_op refl in
        let R : Option Request → Type 0 = λ found. list_any (is_landing_of w) (landings_of w step gone (word i) found) ≡ true in
        let of_request : R (Some (request_on op on)) = in_space in
        let by_request : R (request_of board w on) = subst R (sym requested) of_request in
        let T : Bool → Type 0 = λ b. list_any (is_landing_of w) (cond b (landings_of w step gone (word i) (request_of board w on)) []) ≡ true in
        let self : eqb target target ≡ true = grind (arith, nat_tests) in
        let on_target : T (eqb target target) = subst T (sym self) by_request in
        let P : Place → Type 0 = λ place. list_any (is_landing_of w) (landings_by board h on w step (word i) place) ≡ true in
        let at_target : P (Target target) = on_target in
        subst P (sym comes.is_at) at_target

    abbrev Any : List Event → ℕ → Type 0
    Any h i = list_any (is_landing_of w) (landed board h (word i)) ≡ true

    older : (e : Event) (h : List Event) (i : ℕ) → Any h i → Any (e ∷ h) i
    older e h i old = list_any-append (is_landing_of w) (landed board h (word i)) (brought board h (word i) e) ∙ or_left (list_any (is_landing_of w) (landed board h (word i))) (list_any (is_landing_of w) (brought board h (word i) e)) old

    newer : (e : Event) (h : List Event) (i : ℕ) → list_any (is_landing_of w) (brought board h (word i) e) ≡ true → Any (e ∷ h) i
    newer e h i new = list_any-append (is_landing_of w) (landed board h (word i)) (brought board h (word i) e) ∙ or_right (list_any (is_landing_of w) (landed board h (word i))) (list_any (is_landing_of w) (brought board h (word i) e)) new

    -- what went through in parts
    part_brings : (h : List Event) (on : ℕ) (by : By) (step : Step) (at : Place) (i : ℕ) → Run board (Act on by w step at ∷ h) → i < length (phases_of op) → i < phases_parted step + through h w → (i < through h w → Any h i) → Any (Act on by w step at ∷ h) i
    part_brings h on by (Part number) at i run within parted old =
        let P : Bool → Type 0 = λ b. nat_lt i (through h w) ≡ b → Any (Act on by w (Part number) at ∷ h) i in
        (elim (nat_lt i (through h w)) as P [
          | true ↦ λ below. let gone : i < through h w = grind (arith, nat_tests) in older (Act on by w (Part number) at) h i (old gone)
          | false ↦ λ none.
              let from : through h w ≤ i = grind (arith, nat_tests) in
              let long = length-take number (drop (through h w) (phases_of op)) in
              let rest = length-drop (through h w) (phases_of op) in
              let upto : i < through h w + length (take number (drop (through h w) (phases_of op))) = grind (arith, long, rest, nat_tests) in
              newer (Act on by w (Part number) at) h i (event_brings h on by (Part number) at i run refl from upto)
        ]) refl
    part_brings h on by Land at i run within parted old = older (Act on by w Land at) h i (old (omega (arith, parted)))
    part_brings h on by (Read value) at i run within parted old = older (Act on by w (Read value) at) h i (old (omega (arith, parted)))
    part_brings h on by Accept at i run within parted old = older (Act on by w Accept at) h i (old (omega (arith, parted)))
    part_brings h on by Latch at i run within parted old = older (Act on by w Latch at) h i (old (omega (arith, parted)))
    part_brings h on by (Take outcome) at i run within parted old = older (Act on by w (Take outcome) at) h i (old (omega (arith, parted)))
    part_brings h on by Stall at i run within parted old = older (Act on by w Stall at) h i (old (omega (arith, parted)))
    part_brings h on by MasterAbort at i run within parted old = older (Act on by w MasterAbort at) h i (old (omega (arith, parted)))
    part_brings h on by TargetAbort at i run within parted old = older (Act on by w TargetAbort at) h i (old (omega (arith, parted)))

    parted_lands : (h : List Event) (i : ℕ) → Run board h → i < length (phases_of op) → i < through h w → Any h i
    parted_lands [] i run within parted = absurd (omega (arith, parted))
    parted_lands (Act on by o step at ∷ h) i run within parted =
        let e : Event = Act on by o step at in
        let P : Bool → Type 0 = λ b. same_op o w ≡ b → i < cond b (phases_parted step) 0 + through h w → Any (e ∷ h) i in
        (elim (same_op o w) as P [
          | true ↦ λ same f.
              let one : o ≡ w = same_op_true o w same in
              let R : OpId → Type 0 = λ q. Run board (Act on by q step at ∷ h) in
              let G : OpId → Type 0 = λ q. Any (Act on by q step at ∷ h) i in
              let here : G w = part_brings h on by step at i (subst R one run) within f (parted_lands h i run.1 within) in
              subst G (sym one) here
          | false ↦ λ _ f. older e h i (parted_lands h i run.1 within (omega (arith, f)))
        ]) refl parted
    parted_lands (Arrive lane mark ∷ h) i run within parted = older (Arrive lane mark) h i (parted_lands h i run.1 within (omega (arith, parted)))

    land_brings : (h : List Event) (on : ℕ) (by : By) (step : Step) (at : Place) (i : ℕ) → Run board (Act on by w step at ∷ h) → i < length (phases_of op) → is_land_step step ≡ true → Any (Act on by w step at ∷ h) i
    land_brings h on by Land at i run within lands =
        let P : Bool → Type 0 = λ b. nat_lt i (through h w) ≡ b → Any (Act on by w Land at ∷ h) i in
        (elim (nat_lt i (through h w)) as P [
          | true ↦ λ below. let gone : i < through h w = grind (arith, nat_tests) in older (Act on by w Land at) h i (parted_lands h i run.1 within gone)
          | false ↦ λ none.
              let from : through h w ≤ i = grind (arith, nat_tests) in
              let rest = length-drop (through h w) (phases_of op) in
              let upto : i < through h w + length (drop (through h w) (phases_of op)) = omega (arith, rest, from, within) in
              newer (Act on by w Land at) h i (event_brings h on by Land at i run refl from upto)
        ]) refl
    land_brings h on by (Part number) at i run within lands = cc
    land_brings h on by (Read value) at i run within lands = cc
    land_brings h on by Accept at i run within lands = cc
    land_brings h on by Latch at i run within lands = cc
    land_brings h on by (Take outcome) at i run within lands = cc
    land_brings h on by Stall at i run within lands = cc
    land_brings h on by MasterAbort at i run within lands = cc
    land_brings h on by TargetAbort at i run within lands = cc

    -- what landed whole brought each of its data phases
    pub whole_lands : (h : List Event) (i : ℕ) → Run board h → i < length (phases_of op) → has_landed h w ≡ true → Any h i
    whole_lands [] i run within lands = cc
    whole_lands (Act on by o step at ∷ h) i run within lands =
        let e : Event = Act on by o step at in
        or_either (Any (e ∷ h) i) (is_land_of w e) (has_landed h w)
        (λ here.
        let P : Bool → Type 0 = λ b. same_op o w ≡ b → (b && is_land_step step) ≡ true → Any (e ∷ h) i in
        (elim (same_op o w) as P [
          | true ↦ λ same f.
              let one : o ≡ w = same_op_true o w same in
              let R : OpId → Type 0 = λ q. Run board (Act on by q step at ∷ h) in
              let G : OpId → Type 0 = λ q. Any (Act on by q step at ∷ h) i in
              let it : G w = land_brings h on by step at i (subst R one run) within f in
              subst G (sym one) it
          | false ↦ λ _ f. cc
        ]) refl here)
        (λ old. older e h i (whole_lands h i run.1 within old)) lands
    whole_lands (Arrive lane mark ∷ h) i run within lands = older (Arrive lane mark) h i (whole_lands h i run.1 within lands)
