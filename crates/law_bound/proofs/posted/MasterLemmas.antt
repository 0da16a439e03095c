-- Each act of a master that presents a posted write lowers what is left.
use Rattle.std.proofs.Common.{◌≡◌, ℕ, ◌+◌, ◌*◌, ◌-◌, ◌≤◌, Bool, true, false, cond, eqb, List, [], ◌∷◌, drop, length, Option, Some, refl, sym, ap, subst, ◌∙◌, arith}
use Rattle.std.specs.List.{list_any, AllByRecursion}
use Rattle.std.proofs.lemmas.Bool.Decides.{nat_tests}
use Rattle.list_facts.specs.Lists.{total}
use Rattle.pci_command.specs.declared.command.Command.TheVariants.{MemWrite}
use Rattle.pci_command.specs.declared.command.Space.TheVariants.{Mem, Io, Cfg}
use Rattle.pci_command.specs.declared.op_id.OpId.{OpId}
use Rattle.pci_command.specs.declared.op_id.Outcome.{Outcome}
use Rattle.pci_command.specs.declared.op_id.Outcome.TheVariants.{Written, Aborted, Nobody as NoBody}
use Rattle.pci_command.specs.Same.{same_op, same_command}
use Rattle.board_model.specs.declared.agents.Master.{Master as MasterAgent}
use Rattle.board_model.specs.declared.bridge.Lane.{Lane as BridgeLane}
use Rattle.board_model.specs.declared.bridge.Place.{Place}
use Rattle.board_model.specs.declared.bridge.Place.TheVariants.{Target, Header, Lane, Nobody}
use Rattle.board_model.specs.declared.op.Op.{Op}
use Rattle.board_model.specs.declared.op.Op.TheVariants.{Read as ReadOp, Write, CfgRead, CfgWrite, Poll}
use Rattle.board_model.specs.declared.board.Board.{Board}
use Rattle.board_model.specs.Requests.{op_of, command_of, phases_of, request_on, request_of, is_posted}
use Rattle.board_model.specs.Claims.{claim}
use Rattle.board_model.specs.Ways.{end_of, way, pieces_of, cost_of}
use Rattle.history_model.specs.declared.event.By.TheVariants.{Master}
use Rattle.history_model.specs.declared.event.Step.{Step}
use Rattle.history_model.specs.declared.event.Step.TheVariants.{Land, Part, Read, Accept, Latch, Take, Stall, MasterAbort, TargetAbort}
use Rattle.history_model.specs.declared.event.Event.{Event}
use Rattle.history_model.specs.declared.event.Event.TheVariants.{Act}
use Rattle.history_model.specs.declared.item.Carried.TheVariants.{Post}
use Rattle.history_model.specs.declared.item.Slot.{Slot}
use Rattle.history_model.specs.declared.item.Answer.TheVariants.{Gives}
use Rattle.history_model.specs.World.{World, world_of}
use Rattle.history_model.specs.Program.{master_outcome, ending_of, next_op, follows_op, follows_in, turn_after, turn_of}
use Rattle.history_model.specs.Words.{through}
use Rattle.history_model.specs.Answers.{wants, answer}
use Rattle.history_model.specs.Runs.{Run}
use Rattle.history_model.specs.Left.{flying_left, bridge_left, is_slot_of, op_left, turn_left, program_left, programs_left, left_of}
use Rattle.history_model.proofs.facts.AnswerLemmas.{answered_at}
use Rattle.history_model.proofs.facts.WantsLemmas.{wants-turn}
use Rattle.history_model.proofs.facts.RequestLemmas.{same_op_true, same_op_self}
use Rattle.law_lanes.specs.order.Order.{is_posted_in, is_posted_op}
use Rattle.history_model.proofs.facts.PostedLemmas.{PostedAt, posted_answered}
use Rattle.law_bound.proofs.posted.SumLemmas.{from-one, programs_from}
use Rattle.law_bound.proofs.posted.AlikeLemmas.{AlikeWorlds, Alike-self}
use Rattle.law_bound.proofs.posted.ProgramLemmas.{world_weight, later_op, program_falls, next_costs, lanes_fall, stalls_fall, left_falls}
use Rattle.law_bound.proofs.posted.MoveLemmas.{enters_alike, enters_weight}
use Rattle.law_bound.proofs.posted.StallLemmas.{stalls_lower}
use Rattle.law_bound.proofs.posted.PostLemmas.{OfMaster, of_master, WayGoesOn, way_goes_on, piece_left, whole_claimed, part_falls, flying_weight}
use Rattle.law_bound.proofs.posted.FitLemmas.{Fit}

-- after a write in memory follows the next operation
posted_follows : (board : Board) (o : OpId) (outcome : Outcome) (op : Op) → same_command (command_of op) MemWrite ≡ true → follows_op board o outcome op ≡ next_op board o
posted_follows board o outcome (ReadOp command address) write = refl
posted_follows board o outcome (Write command address phases) write = refl
posted_follows board o outcome (CfgRead bus device register) write = refl
posted_follows board o outcome (CfgWrite bus device register phase) write = refl
posted_follows board o outcome (Poll Mem address want tries) write = cc
posted_follows board o outcome (Poll Io address want tries) write = cc
posted_follows board o outcome (Poll Cfg address want tries) write = cc

-- where slots are held only for turns, none is held for the operation behind a turn
abbrev pub OnlyTurns : (ℕ → Option OpId) → List Slot → Type 0
OnlyTurns turn = AllByRecursion (λ (slot : Slot). turn slot.op.master ≡ Some slot.op)

-- the slot of a turn is none of the operation behind it
not_later : (turn : ℕ → Option OpId) (o : OpId) (slot : Slot) → turn o.master ≡ Some o → turn slot.op.master ≡ Some slot.op → is_slot_of (later_op o) slot ≡ false
not_later turn o slot is_turn held =
    let P : Bool → Type 0 = λ b. same_op slot.op (later_op o) ≡ b → b ≡ false in
    (elim (same_op slot.op (later_op o)) as P [
      | true ↦ λ same.
          let is : slot.op ≡ later_op o = same_op_true slot.op (later_op o) same in
          let later : turn o.master ≡ Some (later_op o) = subst (λ q. turn q.master ≡ Some q) is held in
          let both : Some (later_op o) ≡ Some o = sym later ∙ is_turn in
          let one : later_op o ≡ o = cc in
          absurd (omega (arith, ap (λ (q : OpId). q.index) one))
      | false ↦ λ _. refl
    ]) refl

-- so of all slots
none_later : (turn : ℕ → Option OpId) (o : OpId) (held : List Slot) → turn o.master ≡ Some o → OnlyTurns turn held → list_any (is_slot_of (later_op o)) held ≡ false
none_later turn o [] is_turn only = refl
none_later turn o (slot ∷ held) is_turn only =
    let here = not_later turn o slot is_turn only.0 in
    let behind = none_later turn o held is_turn only.1 in
    rw (here, behind) refl

module _ (board : Board) (fit : Fit board) (h : List Event) (run : Run board h) (only : (l : BridgeLane) → OnlyTurns (turn_of board h) (world_of board h l).held)
    (o : OpId) (op : Op) (is_op : op_of board o ≡ Some op) (posted : is_posted_op board o ≡ true) (some : 1 ≤ length (phases_of op)) (on : ℕ) (wanted : wants board h on Master o ≡ true) where
  -- what is on the lanes before the event
  abbrev world : World
  world = world_of board h

  -- how many data phases are left
  abbrev rest : ℕ
  rest = length (phases_of op) - through h o

  -- the master of the operation
  its : OfMaster board on o
  its = of_master board h on o wanted

  -- the operation is a write in memory
  write : same_command (command_of op) MemWrite ≡ true
  write = sym (ap is_posted_in is_op) ∙ posted

  -- and its master's turn
  is_turn : turn_of board h o.master ≡ Some o
  is_turn = wants-turn board h on o wanted

  -- what it has left at its master
  has_left : (g : List Event) → op_left board g its.master.bus o op ≡ 3 * length (way board op its.master.bus) + pieces_of board op its.master.bus (length (phases_of op) - through g o)
  has_left g =
      let posts : is_posted (request_on op its.master.bus) ≡ true = write in
      rw posts refl

  -- at least one piece of it is left
  piece : 1 ≤ pieces_of board op its.master.bus rest
  piece = piece_left board fit.tree fit.one fit.whole fit.take o op is_op posted some h run its.master.bus

  -- all lanes weigh what is left on all bridges
  before : total (bridge_left board h) board.bridges ≡ world_weight board h world
  before = refl

  -- Where the step ends it at its master.

  module _ (step : Step) (place : Place) (outcome : Outcome) (ends : master_outcome step ≡ Some outcome) (alike : AlikeWorlds (world_of board (Act on Master o step place ∷ h)) (world_of board h)) where
    -- the event
    abbrev e : Event
    e = Act on Master o step place

    -- the next operation is the turn of the master, and the other turns stay
    turn_next : (i : ℕ) → turn_of board (e ∷ h) i ≡ cond (eqb o.master i) (next_op board o) (turn_of board h i)
    turn_next i =
        ap (λ x. turn_after board i (turn_of board h i) (ending_of o x)) ends
        ∙ ap (λ found. cond (eqb o.master i) (follows_in board o outcome found) (turn_of board h i)) is_op
        ∙ ap (λ next. cond (eqb o.master i) next (turn_of board h i)) (posted_follows board o outcome op write)

    -- what it had left falls away, and what follows has no more left than it costs
    ending_falls : programs_left board (e ∷ h) 0 board.masters + op_left board h its.master.bus o op ≤ programs_left board h 0 board.masters
    ending_falls =
        let master : MasterAgent = its.master in
        let f : ℕ → MasterAgent → ℕ = λ i m. program_left board (e ∷ h) m (turn_of board (e ∷ h) i) in
        let g : ℕ → MasterAgent → ℕ = λ i m. program_left board h m (turn_of board h i) in
        let each : (i : ℕ) (m : MasterAgent) → eqb o.master i ≡ false → f i m ≤ g i m = λ i m apart.
        let same : turn_of board (e ∷ h) i ≡ turn_of board h i = turn_next i ∙ ap (λ b. cond b (next_op board o) (turn_of board h i)) apart in
        subst (λ t. program_left board (e ∷ h) m t ≤ g i m) (sym same) (program_falls board h e alike m (turn_of board h i)) in
        let self : eqb o.master o.master ≡ true = grind (arith, nat_tests) in
        let next : turn_of board (e ∷ h) o.master ≡ next_op board o = turn_next o.master ∙ ap (λ b. cond b (next_op board o) (turn_of board h o.master)) self in
        let none : (l : BridgeLane) → list_any (is_slot_of (later_op o)) (world_of board (e ∷ h) l).held ≡ false =
        λ l. ap (list_any (is_slot_of (later_op o))) (alike l).held ∙ none_later (turn_of board h) o (world_of board h l).held is_turn (only l) in
        let costs = next_costs board h e alike master o its.is_master none in
        let new : f o.master master ≡ program_left board (e ∷ h) master (next_op board o) = ap (program_left board (e ∷ h) master) next in
        let behind : ℕ = total (cost_of board master.bus) (drop (o.index + 1) master.ops) in
        let old : g o.master master ≡ op_left board h master.bus o op + behind =
        ap (program_left board h master) is_turn ∙ ap (λ found. turn_left board h master.bus o found + behind) is_op in
        let falls : f o.master master + op_left board h master.bus o op ≤ g o.master master = omega (arith, new, old, costs) in
        omega (
          arith,
          programs_from board (e ∷ h) 0 board.masters,
          programs_from board h 0 board.masters,
          from-one f g o.master master (op_left board h master.bus o op) each falls 0 board.masters o.master (omega arith) its.is_master,
        )

    -- with nothing new on the lanes less is left
    ends_lower : world_of board (e ∷ h) ≡ world_of board h → left_of board (e ∷ h) + 1 ≤ left_of board h
    ends_lower worlds =
        let same : world_weight board h (world_of board (e ∷ h)) ≡ world_weight board h world = ap (world_weight board h) worlds in
        left_falls board h e alike (op_left board h its.master.bus o op) 0 0 0
        ending_falls
        (omega (arith, lanes_fall board h e alike, same, before))
        (omega (arith, stalls_fall board h e alike))
        (omega (arith, has_left h, piece))

  -- A bridge accepts it.

  -- the accepted write weighs less on its lane than it had left at its master
  accept_lowers : (lane : BridgeLane) → answer board h on Master o ≡ Gives Accept (Lane lane) → left_of board (Act on Master o Accept (Lane lane) ∷ h) + 1 ≤ left_of board h
  accept_lowers lane gives =
      let e : Event = Act on Master o Accept (Lane lane) in
      let at = answered_at board h on Master o Accept lane gives in
      let alike : AlikeWorlds (world_of board (e ∷ h)) world = enters_alike o lane world in
      let enters = enters_weight board h fit.distinct o lane world at.bridge at.is_bridge in
      let claims : claim board on (request_on op on) ≡ Lane lane = whole_claimed board fit.tree fit.one fit.whole fit.take o op is_op posted some h run on at.request (Lane lane) at.is_request at.claims in
      let goes : WayGoesOn board op its.master.bus lane = subst (λ n. WayGoesOn board op n lane) its.bus (way_goes_on board op on lane fit.tree claims) in
      let flying = flying_weight board fit.tree fit.one fit.whole fit.take o op is_op posted some h run lane in
      let long : length (way board op its.master.bus) ≡ 1 + length (way board op (end_of board lane)) = ap length goes.first ∙ omega arith in
      left_falls board h e alike (op_left board h its.master.bus o op) 0 (flying_left board h lane (Post o)) 0
      (ending_falls Accept (Lane lane) Written refl alike)
      (omega (arith, lanes_fall board h e alike, enters, before))
      (omega (arith, stalls_fall board h e alike))
      (omega (arith, has_left h, flying, long, goes.pieces rest))

  -- A target takes a part of it.

  -- one piece less is left at the master
  part_lowers : (phases place : ℕ) → answer board h on Master o ≡ Gives (Part phases) (Target place) → left_of board (Act on Master o (Part phases) (Target place) ∷ h) + 1 ≤ left_of board h
  part_lowers phases place gives =
      let e : Event = Act on Master o (Part phases) (Target place) in
      let alike : AlikeWorlds (world_of board (e ∷ h)) world = λ l. Alike-self (world l) in
      let master : MasterAgent = its.master in
      let self : same_op o o ≡ true = same_op_self o in
      let gone : through (e ∷ h) o ≡ phases + through h o = rw self refl in
      let falls = part_falls board fit.tree fit.one fit.whole fit.take o op is_op posted some h run on Master phases (Target place) gives in
      let there : pieces_of board op master.bus (length (phases_of op) - (phases + through h o)) + 1 ≤ pieces_of board op master.bus rest =
      subst (λ n. pieces_of board op n (length (phases_of op) - (phases + through h o)) + 1 ≤ pieces_of board op n rest) its.bus falls in
      let less : pieces_of board op master.bus (length (phases_of op) - through (e ∷ h) o) ≡ pieces_of board op master.bus (length (phases_of op) - (phases + through h o)) =
      ap (λ n. pieces_of board op master.bus (length (phases_of op) - n)) gone in
      let f : ℕ → MasterAgent → ℕ = λ i m. program_left board (e ∷ h) m (turn_of board h i) in
      let g : ℕ → MasterAgent → ℕ = λ i m. program_left board h m (turn_of board h i) in
      let behind : ℕ = total (cost_of board master.bus) (drop (o.index + 1) master.ops) in
      let new : f o.master master ≡ op_left board (e ∷ h) master.bus o op + behind =
      ap (program_left board (e ∷ h) master) is_turn ∙ ap (λ found. turn_left board (e ∷ h) master.bus o found + behind) is_op in
      let old : g o.master master ≡ op_left board h master.bus o op + behind =
      ap (program_left board h master) is_turn ∙ ap (λ found. turn_left board h master.bus o found + behind) is_op in
      let one : f o.master master + 1 ≤ g o.master master = omega (arith, new, old, has_left h, has_left (e ∷ h), less, there) in
      let programs = from-one f g o.master master 1 (λ i m _. program_falls board h e alike m (turn_of board h i)) one 0 board.masters o.master (omega arith) its.is_master in
      left_falls board h e alike 1 0 0 0
      (omega (arith, programs_from board (e ∷ h) 0 board.masters, programs_from board h 0 board.masters, programs))
      (omega (arith, lanes_fall board h e alike, before))
      (omega (arith, stalls_fall board h e alike))
      (omega arith)

  -- where the lanes stay
  same_worlds : AlikeWorlds world world
  same_worlds = λ l. Alike-self (world l)

  -- each step that a master is given
  master_act : (step : Step) (place : Place) → answer board h on Master o ≡ Gives step place → PostedAt step place → left_of board (Act on Master o step place ∷ h) + 1 ≤ left_of board h
  master_act Land (Target place) gives at = ends_lower Land (Target place) Written refl same_worlds refl
  master_act Land (Header bus) gives at = absurd at
  master_act Land (Lane lane) gives at = absurd at
  master_act Land Nobody gives at = absurd at
  master_act (Part phases) (Target place) gives at = part_lowers phases place gives
  master_act (Part phases) (Header bus) gives at = absurd at
  master_act (Part phases) (Lane lane) gives at = absurd at
  master_act (Part phases) Nobody gives at = absurd at
  master_act (Read value) place gives at = absurd at
  master_act Accept (Target place) gives at = absurd at
  master_act Accept (Header bus) gives at = absurd at
  master_act Accept (Lane lane) gives at = accept_lowers lane gives
  master_act Accept Nobody gives at = absurd at
  master_act Latch place gives at = absurd at
  master_act (Take outcome) place gives at = absurd at
  master_act Stall place gives at = stalls_lower board h on Master o place gives
  master_act MasterAbort (Target place) gives at = ends_lower MasterAbort (Target place) NoBody refl same_worlds refl
  master_act MasterAbort (Header bus) gives at = ends_lower MasterAbort (Header bus) NoBody refl same_worlds refl
  master_act MasterAbort (Lane lane) gives at = absurd (answered_at board h on Master o MasterAbort lane gives).gives
  master_act MasterAbort Nobody gives at = ends_lower MasterAbort Nobody NoBody refl same_worlds refl
  master_act TargetAbort (Target place) gives at = ends_lower TargetAbort (Target place) Aborted refl same_worlds refl
  master_act TargetAbort (Header bus) gives at = absurd at
  master_act TargetAbort (Lane lane) gives at = absurd at
  master_act TargetAbort Nobody gives at = absurd at

  -- so each act of a master
  pub masters_lower : (step : Step) (place : Place) → answer board h on Master o ≡ Gives step place → left_of board (Act on Master o step place ∷ h) + 1 ≤ left_of board h
  masters_lower step place gives =
      let requested : request_of board o on ≡ Some (request_on op on) = rw is_op refl in
      let posts : is_posted (request_on op on) ≡ true = write in
      master_act step place gives (posted_answered board h on Master o (request_on op on) step place requested posts gives)
