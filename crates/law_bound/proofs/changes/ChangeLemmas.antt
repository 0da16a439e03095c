-- An event that lowers what is left of one operation, and leaves all else as it was, lowers what is left.
use Rattle.std.proofs.Common.{◌≡◌, ℕ, ◌+◌, ◌*◌, ◌-◌, ◌≤◌, Bool, true, false, cond, List, [], ◌∷◌, length, drop, Option, Some, None, refl, sym, ap, subst, ◌∙◌, arith, slice_get}
use Rattle.std.specs.List.{find, list_any}
use Rattle.list_facts.specs.Lists.{total}
use Rattle.pci_command.specs.declared.op_id.OpId.{OpId}
use Rattle.pci_command.specs.declared.op_id.Outcome.{Outcome}
use Rattle.pci_command.specs.Same.{same_op}
use Rattle.board_model.specs.declared.agents.Master.{Master as MasterAgent}
use Rattle.board_model.specs.declared.bridge.Lane.{Lane as BridgeLane}
use Rattle.board_model.specs.declared.op.Op.{Op}
use Rattle.board_model.specs.declared.board.Board.{Board}
use Rattle.board_model.specs.Requests.{op_of, phases_of, tries_of, request_on, is_posted}
use Rattle.board_model.specs.Ways.{way, pieces_of, cost_of_try, cost_of, lane_back}
use Rattle.board_model.specs.Valid.{IsValid}
use Rattle.history_model.specs.declared.event.Event.{Event}
use Rattle.history_model.specs.declared.item.Slot.{Slot}
use Rattle.history_model.specs.Lanes.{LaneState, is_done_for}
use Rattle.history_model.specs.World.{World, both, world_of}
use Rattle.history_model.specs.Program.{follows, turn_of}
use Rattle.history_model.specs.Words.{parted_by, through}
use Rattle.history_model.specs.Answers.{stalls_by}
use Rattle.history_model.specs.Runs.{Run}
use Rattle.history_model.specs.Local.{is_ask_of, is_gone_of}
use Rattle.history_model.specs.Left.{is_slot_of, lane_or, Reach, reach_of, slot_left, reach_left, delayed_left, op_left, turn_left, program_left, discard_left, drop_left, left_of}
use Rattle.history_model.proofs.facts.RequestLemmas.{same_op_true}
use Rattle.law_bound.proofs.stages.Laws.{delayed_sum, Same}
use Rattle.history_model.proofs.facts.StoreLemmas.{stalls_same, through_same, bridges_le, left_by, programs_fall}
use Rattle.law_bound.proofs.changes.ProgramLemmas.{turn_master, follows_left}
use Rattle.law_bound.proofs.changes.MoveLemmas.{sum_same, Still}

-- where a lane holds a slot, the lanes that do are some
some_reach : (world : World) (o : OpId) (lanes : List BridgeLane) (last : BridgeLane) → (reach_of world o lanes).last ≡ Some last → 1 ≤ (reach_of world o lanes).lanes
some_reach world o [] last is = cc
some_reach world o (lane ∷ lanes) last is =
    let R : Reach = reach_of world o lanes in
    let reach : Reach = record { lanes = R.lanes + 1; last = Some (lane_or R.last lane) } in
    let none : Reach = record { lanes = 0; last = None } in
    let P : Bool → Type 0 = λ b. (cond b reach none).last ≡ Some last → 1 ≤ (cond b reach none).lanes in
    (elim (list_any (is_slot_of o) (world lane).held) as P [ true ↦ λ _. omega arith | false ↦ λ e. cc ]) is

-- whatever place the item of the furthest slot has, something is left
some_chain : (long far : ℕ) (a b c d e : Bool) → 1 ≤ far
    → 1 ≤ cond a (4 * (long - far) + 2 * far + 2) (cond b (4 * (long - far) + 2 * far + 1) (cond c (2 * far) (cond d (2 * far - 1) (cond e (4 * (long - far) + 2 * far + 4) (4 * long + 1)))))
some_chain long far true b c d e some = omega arith
some_chain long far false true c d e some = omega arith
some_chain long far false false true d e some = omega arith
some_chain long far false false false true e some = omega arith
some_chain long far false false false false true some = omega arith
some_chain long far false false false false false some = omega arith

-- so it is by the furthest slot
some_slot : (long far : ℕ) (here back : LaneState) (slot : Option Slot) → 1 ≤ far → 1 ≤ slot_left long far here back slot
some_slot long far here back None some = omega arith
some_slot long far here back (Some slot) some =
    some_chain long far (list_any (is_ask_of slot.number) here.flight) (list_any (is_ask_of slot.number) here.standing) (list_any (is_done_for slot.number) back.flight)
    (list_any (is_done_for slot.number) back.standing) (list_any (is_gone_of slot.number) back.flight) some

-- a delayed request has at least one event before it
pub some_left : (world : World) (o : OpId) (lanes : List BridgeLane) → 1 ≤ delayed_left world o lanes
some_left world o lanes =
    let R : Reach = reach_of world o lanes in
    let P : Option BridgeLane → Type 0 = λ last. R.last ≡ last → 1 ≤ reach_left world o (length lanes) R.lanes last in
    (elim R.last as P [
      | None ↦ λ _. omega arith
      | Some lane ↦ λ is. some_slot (length lanes) R.lanes (world lane) (world (lane_back lane)) (find (is_slot_of o) (world lane).held) (some_reach world o lanes lane is)
    ]) refl

module _ (board : Board) (valid : IsValid board) (h : List Event) (e : Event) (run : Run board (e ∷ h)) (parts : (p : OpId) → parted_by p e ≡ 0) where
  -- what is left of an operation that an event leaves as it was
  delayed_same : (p : OpId) (op : Op) (master : MasterAgent) → op_of board p ≡ Some op → slice_get board.masters p.master ≡ Some master
      → ((lane : BridgeLane) → Same p (both (world_of board h) lane) (both (world_of board (e ∷ h)) lane))
      → delayed_left (world_of board (e ∷ h)) p (way board op master.bus) ≡ delayed_left (world_of board h) p (way board op master.bus)
  delayed_same p op master is_op is_master same =
      omega (
        arith,
        delayed_sum board valid h run.1 p op master is_op is_master,
        delayed_sum board valid (e ∷ h) run p op master is_op is_master,
        sum_same board op p (world_of board h) (world_of board (e ∷ h)) same (way board op master.bus),
      )

  -- of a posted write too
  op_same : (p : OpId) (op : Op) (master : MasterAgent) → op_of board p ≡ Some op → slice_get board.masters p.master ≡ Some master
      → ((lane : BridgeLane) → Same p (both (world_of board h) lane) (both (world_of board (e ∷ h)) lane)) → op_left board (e ∷ h) master.bus p op ≤ op_left board h master.bus p op
  op_same p op master is_op is_master same =
      let on : ℕ = master.bus in
      let gone : through (e ∷ h) p ≡ through h p = through_same board h e parts p in
      let further : ℕ = (tries_of op - (p.attempt + 1)) * cost_of_try board on op in
      let write : ℕ → ℕ = λ n. 3 * length (way board op on) + pieces_of board op on (length (phases_of op) - n) in
      let writes : write (through (e ∷ h) p) ≡ write (through h p) = ap write gone in
      let delayed = delayed_same p op master is_op is_master same in
      let P : Bool → Type 0 = λ b. cond b (write (through (e ∷ h) p)) (delayed_left (world_of board (e ∷ h)) p (way board op on) + further) ≤ cond b (write (through h p)) (delayed_left (world_of board h) p (way board op on) + further) in
      elim (is_posted (request_on op on)) as P [ true ↦ omega arith | false ↦ omega arith ]

  -- and of a turn
  turn_same : (p : OpId) (master : MasterAgent) → slice_get board.masters p.master ≡ Some master → ((lane : BridgeLane) → Same p (both (world_of board h) lane) (both (world_of board (e ∷ h)) lane))
      → turn_left board (e ∷ h) master.bus p (op_of board p) ≤ turn_left board h master.bus p (op_of board p)
  turn_same p master is_master same =
      let P : Option Op → Type 0 = λ found. op_of board p ≡ found → turn_left board (e ∷ h) master.bus p found ≤ turn_left board h master.bus p found in
      (elim (op_of board p) as P [ None ↦ λ _. omega arith | Some op ↦ λ is_op. op_same p op master is_op is_master same ]) refl

  module _ (o : OpId) (op : Op) (master : MasterAgent) (is_op : op_of board o ≡ Some op) (is_master : slice_get board.masters o.master ≡ Some master) (delayed : is_posted (request_on op master.bus) ≡ false)
      (turns : (i : ℕ) → (i ≡ o.master → ⊥) → turn_of board (e ∷ h) i ≡ turn_of board h i)
      (others : (p : OpId) → same_op o p ≡ false → (lane : BridgeLane) → Same p (both (world_of board h) lane) (both (world_of board (e ∷ h)) lane)) where
    -- the other masters
    program_same : (i : ℕ) (m : MasterAgent) → slice_get board.masters i ≡ Some m → (i ≡ o.master → ⊥) → left_by board (e ∷ h) h (e ∷ h) m i ≤ left_by board (e ∷ h) h h m i
    program_same i m is other =
        let F : Option OpId → Type 0 = λ turn. program_left board (e ∷ h) m turn ≤ program_left board h m (turn_of board h i) in
        let P : Option OpId → Type 0 = λ turn. turn_of board h i ≡ turn → program_left board (e ∷ h) m turn ≤ program_left board h m turn in
        let there : F (turn_of board h i) = (elim (turn_of board h i) as P [
          | None ↦ λ _. omega arith
          | Some p ↦ λ is_turn.
              let of_master : p.master ≡ i = turn_master board h i p is_turn in
              let is_master_too : slice_get board.masters p.master ≡ Some m = ap (slice_get board.masters) of_master ∙ is in
              let Q : Bool → Type 0 = λ b. same_op o p ≡ b → b ≡ false in
              let apart : same_op o p ≡ false = (elim (same_op o p) as Q [
                | true ↦ λ same. let one : o ≡ p = same_op_true o p same in let masters : p.master ≡ o.master = ap (λ (q : OpId). q.master) (sym one) in absurd (other (sym of_master ∙ masters))
                | false ↦ λ _. refl
              ]) refl in
              omega (arith, turn_same p m is_master_too (others p apart))
        ]) refl in
        subst F (sym (turns i other)) there

    -- the operation stays its master's turn
    pub own_stays : (a b : ℕ) → turn_of board h o.master ≡ Some o → turn_of board (e ∷ h) o.master ≡ Some o
        → delayed_left (world_of board (e ∷ h)) o (way board op master.bus) + a ≤ delayed_left (world_of board h) o (way board op master.bus) + b
        → left_by board (e ∷ h) h (e ∷ h) master o.master + a ≤ left_by board (e ∷ h) h h master o.master + b
    own_stays a b old new falls =
        let on : ℕ = master.bus in
        let rest : ℕ = total (cost_of board on) (drop (o.index + 1) master.ops) in
        let further : ℕ = (tries_of op - (o.attempt + 1)) * cost_of_try board on op in
        let write : List Event → ℕ = λ hist. 3 * length (way board op on) + pieces_of board op on (length (phases_of op) - through hist o) in
        let asked : List Event → ℕ = λ hist. delayed_left (world_of board hist) o (way board op on) + further in
        let B : Bool → Type 0 = λ t. cond t (write (e ∷ h)) (asked (e ∷ h)) + rest + a ≤ cond t (write h) (asked h) + rest + b in
        let by_kind : B false = omega arith in
        let whole : op_left board (e ∷ h) on o op + rest + a ≤ op_left board h on o op + rest + b = subst B (sym delayed) by_kind in
        let F : Option Op → Type 0 = λ found. turn_left board (e ∷ h) on o found + rest + a ≤ turn_left board h on o found + rest + b in
        let by_op : F (op_of board o) = subst F (sym is_op) whole in
        let G : Option OpId → Option OpId → Type 0 = λ now was. program_left board (e ∷ h) master now + a ≤ program_left board h master was + b in
        let by_new : G (turn_of board (e ∷ h) o.master) (Some o) = subst (λ t. G t (Some o)) (sym new) by_op in
        subst (λ t. G (turn_of board (e ∷ h) o.master) t) (sym old) by_new

    -- the operation ends at its master
    pub own_ends : (outcome : Outcome) → turn_of board h o.master ≡ Some o → turn_of board (e ∷ h) o.master ≡ follows board (record { op = o; outcome = outcome })
        → ((q : OpId) → q.master ≡ o.master → same_op o q ≡ false → (lane : BridgeLane) → list_any (is_slot_of q) (world_of board (e ∷ h) lane).held ≡ false)
        → left_by board (e ∷ h) h (e ∷ h) master o.master + 1 ≤ left_by board (e ∷ h) h h master o.master + 0
    own_ends outcome old new none =
        let on : ℕ = master.bus in
        let rest : ℕ = total (cost_of board on) (drop (o.index + 1) master.ops) in
        let further : ℕ = (tries_of op - (o.attempt + 1)) * cost_of_try board on op in
        let next : program_left board (e ∷ h) master (follows board (record { op = o; outcome = outcome })) ≤ further + rest = follows_left board valid (e ∷ h) o op master is_op is_master none outcome in
        let one = some_left (world_of board h) o (way board op on) in
        let now : ℕ = program_left board (e ∷ h) master (follows board (record { op = o; outcome = outcome })) in
        let write : ℕ = 3 * length (way board op on) + pieces_of board op on (length (phases_of op) - through h o) in
        let asked : ℕ = delayed_left (world_of board h) o (way board op on) + further in
        let B : Bool → Type 0 = λ t. now + 1 ≤ cond t write asked + rest + 0 in
        let by_kind : B false = omega arith in
        let whole : now + 1 ≤ op_left board h on o op + rest + 0 = subst B (sym delayed) by_kind in
        let F : Option Op → Type 0 = λ found. now + 1 ≤ turn_left board h on o found + rest + 0 in
        let by_op : F (op_of board o) = subst F (sym is_op) whole in
        let G : Option OpId → Option OpId → Type 0 = λ turn was. program_left board (e ∷ h) master turn + 1 ≤ program_left board h master was + 0 in
        let by_new : G (turn_of board (e ∷ h) o.master) (Some o) = subst (λ t. G t (Some o)) (sym new) by_op in
        subst (λ t. G (turn_of board (e ∷ h) o.master) t) (sym old) by_new

    -- all together
    pub lowers : ((target : ℕ) → stalls_by target e ≡ 0) → ((lane : BridgeLane) → Still board h lane (world_of board h lane) (world_of board (e ∷ h) lane))
        → (a b c d : ℕ) → left_by board (e ∷ h) h (e ∷ h) master o.master + a ≤ left_by board (e ∷ h) h h master o.master + b
        → total (discard_left board (world_of board (e ∷ h))) board.discards + c ≤ total (discard_left board (world_of board h)) board.discards
        → total (drop_left (world_of board (e ∷ h))) board.drops + d ≤ total (drop_left (world_of board h)) board.drops
        → b + 1 ≤ a + c + d → left_of board (e ∷ h) + 1 ≤ left_of board h
    lowers stalls still a b c d own discards drops enough =
        let start : (i : ℕ) → i ≡ 0 + i = λ i. omega arith in
        let here : left_by board (e ∷ h) h (e ∷ h) master (0 + o.master) + a ≤ left_by board (e ∷ h) h h master (0 + o.master) + b =
        subst (λ i. left_by board (e ∷ h) h (e ∷ h) master i + a ≤ left_by board (e ∷ h) h h master i + b) (start o.master) own in
        let each : (i : ℕ) (m : MasterAgent) → slice_get board.masters i ≡ Some m → (i ≡ o.master → ⊥) → left_by board (e ∷ h) h (e ∷ h) m (0 + i) ≤ left_by board (e ∷ h) h h m (0 + i) =
        λ i m is other. subst (λ k. left_by board (e ∷ h) h (e ∷ h) m k ≤ left_by board (e ∷ h) h h m k) (start i) (program_same i m is other) in
        let programs = programs_fall board (e ∷ h) h a b 0 o.master board.masters master is_master here each in
        let bridges = bridges_le board h e parts (λ lane. (still lane).lighter) board.bridges in
        omega (arith, programs, bridges, stalls_same h e stalls 0 board.targets, discards, drops, enough)
