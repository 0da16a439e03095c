-- An arrival of a delayed request, a completion, or the word that a request was dropped.
use Rattle.std.proofs.Common.{◌≡◌, ℕ, ◌+◌, ◌≤◌, Bool, true, false, List, ◌∷◌, Some, refl, sym, ap, subst, ◌∙◌, arith, slice_get}
use Rattle.std.specs.List.{list_any}
use Rattle.list_facts.specs.Lists.{total}
use Rattle.pci_command.specs.declared.op_id.OpId.{OpId}
use Rattle.pci_command.specs.declared.command.Command.TheVariants.{MemWrite}
use Rattle.pci_command.specs.Same.{same_op, same_command}
use Rattle.board_model.specs.declared.agents.Master.{Master as MasterAgent}
use Rattle.board_model.specs.declared.bridge.Lane.{Lane as BridgeLane}
use Rattle.board_model.specs.declared.op.Op.{Op}
use Rattle.board_model.specs.declared.board.Board.{Board}
use Rattle.board_model.specs.Requests.{op_of, command_of}
use Rattle.board_model.specs.Ways.{way, lane_back}
use Rattle.board_model.specs.Valid.{IsValid}
use Rattle.board_model.proofs.form_laws.Laws.{WayEnds-tree, IsTree-valid}
use Rattle.history_model.specs.declared.event.Mark.{Mark}
use Rattle.history_model.specs.declared.event.Event.{Event}
use Rattle.history_model.specs.declared.event.Event.TheVariants.{Arrive}
use Rattle.history_model.specs.declared.item.Carried.{Carried}
use Rattle.history_model.specs.Lanes.{Both, Effect, effect_of, takes_effect, came_off, arrives_first}
use Rattle.history_model.specs.World.{World, same_lane, both, put, moved, world_of}
use Rattle.history_model.specs.Program.{turn_of}
use Rattle.history_model.specs.Runs.{Run}
use Rattle.history_model.specs.Left.{delayed_left, discard_left, drop_left, left_of}
use Rattle.history_model.proofs.facts.BridgeLemmas.{flip, same_lane_self}
use Rattle.law_bound.specs.stages.Stages.{stage_at}
use Rattle.law_bound.proofs.stages.Laws.{delayed_sum, Same, moved_same}
use Rattle.history_model.proofs.facts.StoreLemmas.{Grown}
use Rattle.law_bound.proofs.changes.Laws.{moved_here, moved_there, sum_up, sum_down, Still, StillBoth, moved_still, grown_still, own_stays, lowers}

-- the first of a list passes
pub first_any : {X : Type 0} (test : X → Bool) (xs : List X) (x : X) (rest : List X) → xs ≡ x ∷ rest → test x ≡ true → list_any test xs ≡ true
first_any test xs x rest is passes = ap (list_any test) is ∙ rw passes refl

-- an item that arrives, and what it does
module _ (board : Board) (valid : IsValid board) (h : List Event) (lane : BridgeLane) (mark : Mark) (run : Run board (Arrive lane mark ∷ h))
    (item : Carried) (rest : List Carried) (is : (world_of board h lane).flight ≡ item ∷ rest) (effect : Effect) (is_effect : effect_of mark item ≡ effect) where
  -- the lane and the lane back before the arrival
  abbrev pub x : Both
  x = both (world_of board h) lane

  -- and after it
  abbrev pub y : Both
  y = takes_effect effect item (record (both (world_of board h) lane) { here = came_off item rest (world_of board h lane) })

  -- what was on the lanes before
  abbrev pub world : World
  world = world_of board h

  -- what is on the lanes after
  abbrev pub new : World
  new = world_of board (Arrive lane mark ∷ h)

  -- the same, by the move of the one bridge
  abbrev pub last : World
  last = moved (λ _. y) lane (world_of board h)

  -- the arrival is that move
  pub is_new : world_of board (Arrive lane mark ∷ h) ≡ last
  is_new =
      let off : Both = record x { here = came_off item rest x.here } in
      ap (λ flight. put world lane (arrives_first mark flight x)) is ∙ ap (λ does. put world lane (takes_effect does item off)) is_effect

  -- the lane and the lane back after it
  pub new_here : both (world_of board (Arrive lane mark ∷ h)) lane ≡ y
  new_here = ap (λ w. both w lane) is_new ∙ moved_here (λ _. y) lane world

  -- the same from the lane back
  pub new_there : both (world_of board (Arrive lane mark ∷ h)) (lane_back lane) ≡ flip y
  new_there = ap (λ w. both w (lane_back lane)) is_new ∙ moved_there (λ _. y) lane world

  -- one of both lanes is looked at in another way
  pub arrive_lowers : (o : OpId) (op : Op) (master : MasterAgent) → op_of board o ≡ Some op → slice_get board.masters o.master ≡ Some master → same_command (command_of op) MemWrite ≡ false → turn_of board h o.master ≡ Some o
      → ((p : OpId) → same_op o p ≡ false → Same p x y × Same p (flip x) (flip y)) → StillBoth board h lane x y
      → (a b c d : ℕ) → delayed_left (world_of board (Arrive lane mark ∷ h)) o (way board op master.bus) + a ≤ delayed_left (world_of board h) o (way board op master.bus) + b
      → total (discard_left board (world_of board (Arrive lane mark ∷ h))) board.discards + c ≤ total (discard_left board (world_of board h)) board.discards
      → total (drop_left (world_of board (Arrive lane mark ∷ h))) board.drops + d ≤ total (drop_left (world_of board h)) board.drops
      → b + 1 ≤ a + c + d → left_of board (Arrive lane mark ∷ h) + 1 ≤ left_of board h
  arrive_lowers o op master is_op is_master delayed is_turn others still a b c d left discards drops enough =
      let event : Event = Arrive lane mark in
      let others_new : (p : OpId) → same_op o p ≡ false → (l : BridgeLane) → Same p (both world l) (both new l) =
      λ p other l. subst (λ w. Same p (both world l) (both w l)) (sym is_new) (moved_same p (λ _. false) (λ _. y) lane world (λ _. (others p other).0) (λ _. (others p other).1) l refl) in
      let still_new : (l : BridgeLane) → Still board h l (world l) (new l) = λ l. subst (λ (w : World). Still board h l (world l) (w l)) (sym is_new) (moved_still board h (λ _. y) lane world still l) in
      let own = own_stays board valid h event run (λ _. refl) o op master is_op is_master delayed (λ i _. refl) others_new a b is_turn is_turn left in
      lowers board valid h event run (λ _. refl) o op master is_op is_master delayed (λ i _. refl) others_new (λ _. refl) still_new a b c d own discards drops enough

  -- no fewer requests and completions came by
  pub grown : StillBoth board h lane x y → Grown (world_of board h) (world_of board (Arrive lane mark ∷ h))
  grown still = grown_still board h world new (λ l. subst (λ (w : World). Still board h l (world l) (w l)) (sym is_new) (moved_still board h (λ _. y) lane world still l))

  -- sums of stages, where one lane of the two changes
  pub falls_here : (o : OpId) (op : Op) (d : ℕ) (master : MasterAgent) → op_of board o ≡ Some op → slice_get board.masters o.master ≡ Some master → Same o (flip x) (flip y)
      → stage_at board op o (world_of board h) lane + d ≤ stage_at board op o (world_of board (Arrive lane mark ∷ h)) lane → list_any (same_lane lane) (way board op master.bus) ≡ true
      → delayed_left (world_of board (Arrive lane mark ∷ h)) o (way board op master.bus) + d ≤ delayed_left (world_of board h) o (way board op master.bus) + 0
  falls_here o op d master is_op is_master same up on_way =
      let lanes : List BridgeLane = way board op master.bus in
      let same_but : (l : BridgeLane) → same_lane lane l ≡ false → Same o (both world l) (both new l) =
      λ l other. subst (λ w. Same o (both world l) (both w l)) (sym is_new) (moved_same o (same_lane lane) (λ _. y) lane world (λ none. let self = same_lane_self lane in cc) (λ _. same) l other) in
      let further = sum_up board op o world new lane d same_but up lanes on_way in
      omega (arith, further, delayed_sum board valid h run.1 o op master is_op is_master, delayed_sum board valid (Arrive lane mark ∷ h) run o op master is_op is_master)

  -- or brings it less far
  pub rises_here : (o : OpId) (op : Op) (d : ℕ) (master : MasterAgent) → op_of board o ≡ Some op → slice_get board.masters o.master ≡ Some master → Same o (flip x) (flip y)
      → stage_at board op o (world_of board h) lane ≤ stage_at board op o (world_of board (Arrive lane mark ∷ h)) lane + d
      → delayed_left (world_of board (Arrive lane mark ∷ h)) o (way board op master.bus) + 0 ≤ delayed_left (world_of board h) o (way board op master.bus) + d
  rises_here o op d master is_op is_master same down =
      let lanes : List BridgeLane = way board op master.bus in
      let ends = WayEnds-tree board op (IsTree-valid board valid) master.bus in
      let same_but : (l : BridgeLane) → same_lane lane l ≡ false → Same o (both world l) (both new l) =
      λ l other. subst (λ w. Same o (both world l) (both w l)) (sym is_new) (moved_same o (same_lane lane) (λ _. y) lane world (λ none. let self = same_lane_self lane in cc) (λ _. same) l other) in
      let back = sum_down board op o world new lane d same_but down lanes ends.no_bridge_twice in
      omega (arith, back, delayed_sum board valid h run.1 o op master is_op is_master, delayed_sum board valid (Arrive lane mark ∷ h) run o op master is_op is_master)

  -- the lane back brings the operation further
  pub falls_there : (o : OpId) (op : Op) (d : ℕ) (master : MasterAgent) → op_of board o ≡ Some op → slice_get board.masters o.master ≡ Some master → Same o x y
      → stage_at board op o (world_of board h) (lane_back lane) + d ≤ stage_at board op o (world_of board (Arrive lane mark ∷ h)) (lane_back lane) → list_any (same_lane (lane_back lane)) (way board op master.bus) ≡ true
      → delayed_left (world_of board (Arrive lane mark ∷ h)) o (way board op master.bus) + d ≤ delayed_left (world_of board h) o (way board op master.bus) + 0
  falls_there o op d master is_op is_master same up on_way =
      let lanes : List BridgeLane = way board op master.bus in
      let same_but : (l : BridgeLane) → same_lane (lane_back lane) l ≡ false → Same o (both world l) (both new l) =
      λ l other. subst (λ w. Same o (both world l) (both w l)) (sym is_new) (moved_same o (same_lane (lane_back lane)) (λ _. y) lane world (λ _. same) (λ none. let self = same_lane_self (lane_back lane) in cc) l other) in
      let further = sum_up board op o world new (lane_back lane) d same_but up lanes on_way in
      omega (arith, further, delayed_sum board valid h run.1 o op master is_op is_master, delayed_sum board valid (Arrive lane mark ∷ h) run o op master is_op is_master)

  -- or brings it less far
  pub rises_there : (o : OpId) (op : Op) (d : ℕ) (master : MasterAgent) → op_of board o ≡ Some op → slice_get board.masters o.master ≡ Some master → Same o x y
      → stage_at board op o (world_of board h) (lane_back lane) ≤ stage_at board op o (world_of board (Arrive lane mark ∷ h)) (lane_back lane) + d
      → delayed_left (world_of board (Arrive lane mark ∷ h)) o (way board op master.bus) + 0 ≤ delayed_left (world_of board h) o (way board op master.bus) + d
  rises_there o op d master is_op is_master same down =
      let lanes : List BridgeLane = way board op master.bus in
      let ends = WayEnds-tree board op (IsTree-valid board valid) master.bus in
      let same_but : (l : BridgeLane) → same_lane (lane_back lane) l ≡ false → Same o (both world l) (both new l) =
      λ l other. subst (λ w. Same o (both world l) (both w l)) (sym is_new) (moved_same o (same_lane (lane_back lane)) (λ _. y) lane world (λ _. same) (λ none. let self = same_lane_self (lane_back lane) in cc) l other) in
      let back = sum_down board op o world new (lane_back lane) d same_but down lanes ends.no_bridge_twice in
      omega (arith, back, delayed_sum board valid h run.1 o op master is_op is_master, delayed_sum board valid (Arrive lane mark ∷ h) run o op master is_op is_master)
