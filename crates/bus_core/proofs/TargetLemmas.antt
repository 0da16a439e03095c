-- A target claims an operation.
use Rattle.std.proofs.Common.{◌≡◌, ◌≢◌, ℕ, ◌+◌, ◌-◌, ◌<◌, Bool, true, false, cond, ◌==◌, List, ◌∷◌, length, map, Option, Some, None, ◌⊎◌, inl, inr, refl, sym, ap, subst, ◌∙◌, arith, slice_get}
use Rattle.std.specs.List.{position}
use Rattle.std.proofs.lemmas.Bool.{eqb-true, eq-eqb}
use Rattle.std.proofs.lemmas.Bool.Decides.{nat_tests}
use Rattle.std.proofs.lemmas.List.{append-nil}
use Rattle.std.proofs.Common.{length-drop}
use Rattle.pci_command.specs.declared.command.Space.TheVariants.{Mem, Io, Cfg}
use Rattle.pci_command.specs.declared.request.Request.{Request}
use Rattle.pci_command.specs.declared.op_id.OpId.{OpId}
use Rattle.pci_command.specs.Command.{is_read}
use Rattle.pci_command.specs.Same.{same_op}
use Rattle.board_model.specs.declared.agents.Target.{Target as TargetAgent}
use Rattle.board_model.specs.declared.bridge.Place.{Place}
use Rattle.board_model.specs.declared.bridge.Place.TheVariants.{Target, Nobody}
use Rattle.board_model.specs.declared.op.Op.{Op}
use Rattle.board_model.specs.declared.op.Op.TheVariants.{Read as ReadOp, Write as WriteOp, CfgRead, CfgWrite, Poll}
use Rattle.board_model.specs.declared.board.Board.{Board}
use Rattle.board_model.specs.Requests.{request_of, command_of, tries_of}
use Rattle.board_model.specs.Claims.{claim}
use Rattle.board_model.specs.Ways.{lane_back}
use Rattle.history_model.specs.declared.event.By.{By}
use Rattle.history_model.specs.declared.event.Event.{Event}
use Rattle.history_model.specs.declared.event.Event.TheVariants.{Act}
use Rattle.history_model.specs.declared.event.Step.TheVariants.{MasterAbort}
use Rattle.history_model.specs.declared.item.Answer.TheVariants.{Gives}
use Rattle.history_model.specs.World.{World}
use Rattle.history_model.specs.Words.{phases_parted, through, without}
use Rattle.history_model.specs.Answers.{target_answer, answer_by, answer_to, answer_in}
use Rattle.history_model.proofs.facts.RequestLemmas.{request_is_of, same_op_true}
use Rattle.law_local.proofs.PlaceLemmas.{target_on_bus}
use Rattle.bus_targets.specs.declared.access.Access.{Access}
use Rattle.bus_targets.specs.declared.access.Access.TheVariants.{Stall, Abort, Value, Part, Landed}
use Rattle.bus_targets.specs.State.{TargetView, access_by, step_of}
use Rattle.bus_targets.specs.Stands.{TargetStands, IsAccess}
use Rattle.bus_targets.proofs.EventLemmas.{stands_elsewhere}
use Rattle.bus_core.specs.Bus.{BusView, Shape, shape_of, IsOf, AreLines, PartsAreOfWrites, BusStands}
use Rattle.bus_core.specs.Calls.{Answered}
use Rattle.bus_core.specs.Parts.{IsClaimed, PlaceAnswers}
use Rattle.bus_core.specs.Places.{AccessesAt, NotesPart}
use Rattle.bus_core.proofs.ListLemmas.{one_map, one_each, get_map, map_get, found_at, none_at}
use Rattle.bus_core.proofs.CalmLemmas.{none_parted, parts_stay, unmoved}

-- only of a write a part is taken, and less than is left
pub part_access : (t : TargetView) (request : Request) (found : Option TargetAgent) (phases : ℕ) → Part phases ≡ access_by t request found → (is_read request.command ≡ false) × (phases < length request.phases)
part_access t request None phases is = cc
part_access t request (Some agent) phases is =
    grind (arith, nat_tests)

-- an operation that does not read is tried once
tried_once : (op : Op) → is_read (command_of op) ≡ false → tries_of op ≡ 1
tried_once (ReadOp command address) reads = refl
tried_once (WriteOp command address phases) reads = refl
tried_once (CfgRead bus device register) reads = refl
tried_once (CfgWrite bus device register phase) reads = refl
tried_once (Poll Mem address want tries) reads = cc
tried_once (Poll Io address want tries) reads = cc
tried_once (Poll Cfg address want tries) reads = cc

-- what went through of the write after a part of it
access_parts : (board : Board) (bus : ℕ) (by : By) (o : OpId) (p : List Event) (t : TargetView) (found : Option TargetAgent) (place : Place) (request rest : Request) (access : Access)
    → request_of board o bus ≡ Some request → rest ≡ without (through p o) request → access ≡ access_by t rest found
    → PartsAreOfWrites board bus p → PartsAreOfWrites board bus (Act bus by o (step_of access) place ∷ p)
access_parts board bus by o p t found place request rest Stall is_request is_rest is old = parts_stay board bus p (Act bus by o (step_of Stall) place) (λ q. none_parted bus by o q (step_of Stall) place refl) old
access_parts board bus by o p t found place request rest Abort is_request is_rest is old = parts_stay board bus p (Act bus by o (step_of Abort) place) (λ q. none_parted bus by o q (step_of Abort) place refl) old
access_parts board bus by o p t found place request rest (Value value) is_request is_rest is old = parts_stay board bus p (Act bus by o (step_of (Value value)) place) (λ q. none_parted bus by o q (step_of (Value value)) place refl) old
access_parts board bus by o p t found place request rest Landed is_request is_rest is old = parts_stay board bus p (Act bus by o (step_of Landed) place) (λ q. none_parted bus by o q (step_of Landed) place refl) old
access_parts board bus by o p t found place request rest (Part phases) is_request is_rest is old =
    λ q whole is_whole.
    let e : Event = Act bus by o (step_of (Part phases)) place in
    let Goal : ℕ → Type 0 = λ n. (n + through p q ≡ 0) ⊎ ((is_read whole.command ≡ false) × (n + through p q < length whole.phases)) in
    let P : Bool → Type 0 = λ b. same_op o q ≡ b → Goal (cond b phases 0) in
    (elim (same_op o q) as P [
      | true ↦ λ same.
          let one : o ≡ q = same_op_true o q same in
          let at : request_of board o bus ≡ Some whole = subst (λ r. request_of board r bus ≡ Some whole) (sym one) is_whole in
          let both = sym is_request ∙ at in
          let is_one : request ≡ whole = cc in
          let part = part_access t rest found phases is in
          let command : rest.command ≡ request.command = ap (λ (r : Request). r.command) is_rest in
          let left : length rest.phases ≡ length request.phases - through p o = ap (λ (r : Request). length r.phases) is_rest ∙ length-drop (through p o) request.phases in
          let G : OpId → Request → Type 0 = λ r w. (phases + through p r ≡ 0) ⊎ ((is_read w.command ≡ false) × (phases + through p r < length w.phases)) in
          let below : phases + through p o < length request.phases = let f = part.1 in omega (arith, f, left) in
          subst (λ r. G r whole) one (subst (λ w. G o w) is_one (inr (ap is_read (sym command) ∙ part.0, below)))
      | false ↦ λ _.
          let F : ℕ → Type 0 = λ n. (n ≡ 0) ⊎ ((is_read whole.command ≡ false) × (n < length whole.phases)) in
          let zeroed : through p q ≡ 0 + through p q = omega arith in
          subst F zeroed (old q whole is_whole)
    ]) refl

-- what is parted is a write, which is tried once
access_once : (t : TargetView) (rest : Request) (found : Option TargetAgent) (op : Op) (access : Access) → access ≡ access_by t rest found → rest.command ≡ command_of op → (phases : ℕ) → access ≡ Part phases → tries_of op ≡ 1
access_once t rest found op access is command phases part = tried_once op (ap is_read (sym command) ∙ (part_access t rest found phases (sym part ∙ is)).0)

-- a part fits in a byte where what is left does
pub part_room : (t : TargetView) (rest : Request) (found : Option TargetAgent) (access : Access) (gone : ℕ) → access ≡ access_by t rest found → gone + length rest.phases < 256 → gone + phases_parted (step_of access) < 256
part_room t rest found Stall gone is room = omega (arith, room)
part_room t rest found Abort gone is room = omega (arith, room)
part_room t rest found (Value value) gone is room = omega (arith, room)
part_room t rest found Landed gone is room = omega (arith, room)
part_room t rest found (Part phases) gone is room = let f = (part_access t rest found phases is).1 in omega (arith, room, f)

module _ (board : Board) (tags : By → OpId → ℕ) (world : World) (p : List Event) (by : By) (o : OpId) (s : BusView) (t : ℕ) (request rest : Request)
    (stands : BusStands board tags world p s) (claimed : IsClaimed board s.bus p o request rest (Target t)) where
  answered_target : answer_in board world p s.bus by o ≡ target_answer board p t rest (slice_get board.targets t)
  answered_target =
      ap (answer_to board world p s.bus by o) claimed.is_request
      ∙ (ap (λ r. answer_by board world p s.bus by o r (claim board s.bus r)) (sym claimed.is_rest)
      ∙ ap (answer_by board world p s.bus by o rest) claimed.claims)

  -- not on this bus: there is no such target, and nobody answers
  no_target : position (λ (one : TargetView). one.target == t) s.targets ≡ None → slice_get board.targets t ≡ None
  no_target none =
      let P : Option TargetAgent → Type 0 = λ found. slice_get board.targets t ≡ found → found ≡ None in
      (elim (slice_get board.targets t) as P [
        | None ↦ λ _. refl
        | Some agent ↦ λ is.
            let on_bus : agent.bus ≡ s.bus = target_on_bus board s.bus rest t agent is claimed.claims in
            let has = stands.is_of.each_target t agent is on_bus in
            let one = map_get (λ (x : TargetView). x.target) s.targets has.0 t has.1 in
            let fails : (one.0.target == t) ≡ false = none_at (λ (x : TargetView). x.target == t) s.targets none has.0 one.0 one.1.0 in
            let passes : (one.0.target == t) ≡ true = eq-eqb one.0.target t one.1.1 in
            let wrong : true ≡ false = sym passes ∙ fails in cc
      ]) refl

  pub nobody_there : position (λ (one : TargetView). one.target == t) s.targets ≡ None → Answered board tags world p by o s (Gives MasterAbort Nobody) None s
  nobody_there none =
      unmoved board tags world p by o s (Gives MasterAbort Nobody) refl refl (answered_target ∙ ap (target_answer board p t rest) (no_target none)) stands

  module _ (place : ℕ) (targets : List TargetView) (gone : List (List ℕ)) (access : Access) (found : position (λ (one : TargetView). one.target == t) s.targets ≡ Some place)
      (accesses : AccessesAt board place s.targets rest access targets) (notes : NotesPart s.through o access gone) where
    at_target : accesses.before.target ≡ t
    at_target =
        let one = found_at (λ (x : TargetView). x.target == t) s.targets place found in
        let both = sym one.1.0 ∙ accesses.one.was in
        let same : one.0 ≡ accesses.before = cc in
        sym (ap (λ (x : TargetView). x.target) same) ∙ eqb-true one.0.target t one.1.1

    is_access : IsAccess board p accesses.before.target s.bus o rest
    is_access =
        let command : rest.command ≡ request.command = ap (λ (r : Request). r.command) claimed.is_rest in
        let W : Type 0 = (through p o ≡ 0) ⊎ ((is_read request.command ≡ false) × (through p o < length request.phases)) in
        record {
          whole = request;
          named = claimed.is_request;
          rest = claimed.is_rest;
          claimed = claimed.claims ∙ ap Target (sym at_target);
          read_whole = λ reads.
              let known : is_read request.command ≡ true = ap is_read (sym command) ∙ reads in
              elim (stands.parts o request claimed.is_request) as (λ _. through p o ≡ 0) [ inl none ↦ none | inr write ↦ let wrong : true ≡ false = sym known ∙ write.0 in cc ];
        }

    pub target_answers : Answered board tags world p by o s (Gives (step_of access) (Target t)) None (record s { targets = targets; through = gone })
    target_answers =
        let f : TargetView → ℕ = λ x. x.target in
        let numbers : map f targets ≡ map f s.targets = one_map f place s.targets targets accesses.before accesses.after accesses.one accesses.target in
        let S : List ℕ → Shape = λ l. record { bus = s.bus; lanes = (shape_of s).lanes; masters = (shape_of s).masters; targets = l } in
        let there : TargetStands board p accesses.before = stands.targets place accesses.before accesses.one.was in
        let e : ℕ → Event = λ n. Act s.bus by o (step_of access) (Target n) in
        let answers : target_answer board p accesses.before.target rest (slice_get board.targets accesses.before.target) ≡ Gives (step_of access) (Target accesses.before.target) = accesses.answers.answers p s.bus o there is_access in
        let of_op = request_is_of board o s.bus request claimed.is_request in
        let command : rest.command ≡ command_of of_op.op = ap (λ (r : Request). r.command) claimed.is_rest ∙ ap (λ (r : Request). r.command) of_op.is_request in
        let agent : Option TargetAgent = slice_get board.targets accesses.before.target in
        record {
          answer_is = answered_target ∙ subst (λ n. target_answer board p n rest (slice_get board.targets n) ≡ Gives (step_of access) (Target n)) at_target answers;
          stands = record {
            is_of = subst (λ l. IsOf board (S l)) (sym numbers) stands.is_of;
            lines = subst (λ l. AreLines board tags (S l)) (sym numbers) stands.lines;
            ports = stands.ports;
            masters = stands.masters;
            targets = one_each (λ _ x. TargetStands board (e t ∷ p) x) place s.targets targets accesses.before accesses.after accesses.one
                (subst (λ n. TargetStands board (e n ∷ p) accesses.after) at_target (accesses.answers.stands p s.bus by o there is_access))
                (λ n x differ is.
                let apart : t ≢ x.target = λ same.
                differ (stands.is_of.targets_apart n place t (get_map f s.targets n x is ∙ ap Some (sym same)) (get_map f s.targets place accesses.before accesses.one.was ∙ ap Some at_target)) in
                stands_elsewhere board p x (e t) apart (stands.targets n x is));
            through = notes.stands board p s.bus by (Target t) of_op.op stands.through of_op.is_op (access_once accesses.before rest agent of_op.op access accesses.access_is command);
            parts = access_parts board s.bus by o p accesses.before agent (Target t) request rest access claimed.is_request claimed.is_rest accesses.access_is stands.parts;
          };
          flights = record {
            to_bus = λ n lane is. refl;
            from_bus = λ n lane is. sym (append-nil (world (lane_back lane)).flight);
          };
        }

-- so it is whatever the past
pub target_nobody : (board : Board) (s : BusView) (t line : ℕ) (o : OpId) (request rest : Request) → position (λ (one : TargetView). one.target == t) s.targets ≡ None
    → PlaceAnswers board s (Target t) line o request rest (Gives MasterAbort Nobody) None s
target_nobody board s t line o request rest none =
    record { answers = λ tags world p by is_line stands claimed. nobody_there board tags world p by o s t request rest stands claimed none }

pub target_accesses : (board : Board) (s : BusView) (t line : ℕ) (o : OpId) (request rest : Request) (place : ℕ) (targets : List TargetView) (gone : List (List ℕ)) (access : Access)
    → position (λ (one : TargetView). one.target == t) s.targets ≡ Some place → AccessesAt board place s.targets rest access targets → NotesPart s.through o access gone
    → PlaceAnswers board s (Target t) line o request rest (Gives (step_of access) (Target t)) None (record s { targets = targets; through = gone })
target_accesses board s t line o request rest place targets gone access found accesses notes =
    record { answers = λ tags world p by is_line stands claimed. target_answers board tags world p by o s t request rest stands claimed place targets gone access found accesses notes }

-- a target that was accessed is at its place
pub targets_shape : (board : Board) (s : BusView) (place : ℕ) (rest : Request) (access : Access) (targets : List TargetView) (gone : List (List ℕ)) → AccessesAt board place s.targets rest access targets → shape_of (record s { targets = targets; through = gone }) ≡ shape_of s
targets_shape board s place rest access targets gone accesses =
    let f : TargetView → ℕ = λ x. x.target in
    let S : List ℕ → Shape = λ l. record { bus = s.bus; lanes = (shape_of s).lanes; masters = (shape_of s).masters; targets = l } in
    ap S (one_map f place s.targets targets accesses.before accesses.after accesses.one accesses.target)
