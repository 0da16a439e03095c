-- A run goes on, or it is complete.
use Rattle.std.proofs.Common.{◌≡◌, ℕ, ◌<◌, List, [], length, None, sym, ap, subst, ◌⊎◌, inl, inr, ⊎_elim}
use Rattle.std.specs.List.{AllByRecursion}
use Rattle.list_facts.proofs.EachLemmas.{Each-all}
use Rattle.board_model.specs.declared.bridge.Bridge.{Bridge}
use Rattle.board_model.specs.declared.bridge.Lane.{Lane as BridgeLane}
use Rattle.board_model.specs.declared.board.Board.{Board}
use Rattle.board_model.specs.Valid.{IsValid}
use Rattle.history_model.specs.declared.event.Event.{Event}
use Rattle.history_model.specs.Lanes.{LaneState, empty_lane}
use Rattle.board_model.specs.Ways.{lane_back}
use Rattle.history_model.specs.World.{world_of}
use Rattle.history_model.specs.Program.{turn_of}
use Rattle.history_model.specs.Answers.{bridge_to}
use Rattle.history_model.specs.Runs.{Run, IsIdle, Complete}
use Rattle.history_model.proofs.facts.BridgeLemmas.{lane_back_back}
use Rattle.law_lanes.specs.order.Order.{posts}
use Rattle.law_lanes.specs.progress.Next.{Next}
use Rattle.law_lanes.proofs.progress.SoundLemmas.{Sound, Sound-valid}
use Rattle.law_lanes.proofs.progress.LaneLemmas.{lane_down, lane_up, look_at_lanes, look_below}
use Rattle.law_lanes.proofs.progress.ArrivalLemmas.{no_bridge_empty, arrival_next}
use Rattle.law_lanes.proofs.progress.PostLemmas.{post_next}
use Rattle.law_lanes.proofs.progress.StandLemmas.{NotDone}
use Rattle.law_lanes.proofs.progress.TakeLemmas.{take_next}
use Rattle.law_lanes.proofs.progress.AskLemmas.{ask_next}
use Rattle.law_lanes.proofs.progress.TurnLemmas.{turn_next}

module _ (board : Board) (h : List Event) (run : Run board h) (sound : Sound board) where
  -- nothing is on a lane of no bridge
  empty : (lane : BridgeLane) → bridge_to board lane.bus ≡ None → world_of board h lane ≡ empty_lane
  empty lane none = no_bridge_empty board h lane run none

  -- where nothing is on any lane
  goes_on_idle : ((lane : BridgeLane) → (world_of board h lane).flight ≡ []) → ((lane : BridgeLane) → (world_of board h lane).standing ≡ []) → Next board h ⊎ Complete board h
  goes_on_idle still idle =
      let Ended : ℕ → Type 0 = λ master. turn_of board h master ≡ None in
      let Idle : Bridge → Type 0 = λ bridge. IsIdle (world_of board h (lane_down bridge)) × IsIdle (world_of board h (lane_up bridge)) in
      let both : (bridge : Bridge) → Idle bridge = λ bridge. ((still (lane_down bridge), idle (lane_down bridge)), (still (lane_up bridge), idle (lane_up bridge))) in
      ⊎_elim {C = Next board h ⊎ Complete board h}
      (λ next. inl next)
      (λ (ended : (master : ℕ) → master < length board.masters → Ended master). inr (record { ended = ended; idle = Each-all Idle both board.bridges }))
      (look_below (Next board h) Ended (length board.masters) (turn_next board h run sound still idle))

  -- where only delayed requests stand
  goes_on_asks : ((lane : BridgeLane) → (world_of board h lane).flight ≡ []) → ((lane : BridgeLane) → posts (world_of board h lane).standing ≡ [])
      → ((lane : BridgeLane) → AllByRecursion NotDone (world_of board h lane).standing) → Next board h ⊎ Complete board h
  goes_on_asks still no_posts no_dones =
      let Q : BridgeLane → Type 0 = λ lane. (world_of board h lane).standing ≡ [] in
      ⊎_elim {C = Next board h ⊎ Complete board h}
      (λ next. inl next)
      (λ (idle : (lane : BridgeLane) → Q lane). goes_on_idle still idle)
      (look_at_lanes board (Next board h) Q (λ lane none. ap (λ (state : LaneState). state.standing) (empty lane none)) (ask_next board h run sound still no_posts no_dones))

  -- where no posted write stands
  goes_on_dones : ((lane : BridgeLane) → (world_of board h lane).flight ≡ []) → ((lane : BridgeLane) → posts (world_of board h lane).standing ≡ []) → Next board h ⊎ Complete board h
  goes_on_dones still no_posts =
      let Q : BridgeLane → Type 0 = λ lane. AllByRecursion NotDone (world_of board h (lane_back lane)).standing in
      ⊎_elim {C = Next board h ⊎ Complete board h}
      (λ next. inl next)
      (λ (none : (lane : BridgeLane) → Q lane).
      goes_on_asks still no_posts (λ lane. subst (λ l. AllByRecursion NotDone (world_of board h l).standing) (lane_back_back lane) (none (lane_back lane))))
      (look_at_lanes board (Next board h) Q
      (λ lane none. subst (λ (state : LaneState). AllByRecursion NotDone state.standing) (sym (empty (lane_back lane) none)) tt)
      (take_next board h run sound no_posts))

  -- where nothing is in flight
  goes_on_posts : ((lane : BridgeLane) → (world_of board h lane).flight ≡ []) → Next board h ⊎ Complete board h
  goes_on_posts still =
      let Q : BridgeLane → Type 0 = λ lane. posts (world_of board h lane).standing ≡ [] in
      ⊎_elim {C = Next board h ⊎ Complete board h}
      (λ next. inl next)
      (λ (none : (lane : BridgeLane) → Q lane). goes_on_dones still none)
      (look_at_lanes board (Next board h) Q (λ lane none. ap (λ (state : LaneState). posts state.standing) (empty lane none)) (post_next board h run sound still))

  -- in all
  pub goes_on : Next board h ⊎ Complete board h
  goes_on =
      let Q : BridgeLane → Type 0 = λ lane. (world_of board h lane).flight ≡ [] in
      ⊎_elim {C = Next board h ⊎ Complete board h}
      (λ next. inl next)
      (λ (still : (lane : BridgeLane) → Q lane). goes_on_posts still)
      (look_at_lanes board (Next board h) Q (λ lane none. ap (λ (state : LaneState). state.flight) (empty lane none)) (arrival_next board h))

-- a run of a valid board that is not complete goes on
pub runs_go_on : (board : Board) (h : List Event) → IsValid board → Run board h → ¬ Complete board h → Next board h
runs_go_on board h valid run incomplete =
    ⊎_elim {C = Next board h} (λ next. next) (λ (complete : Complete board h). absurd (incomplete complete)) (goes_on board h run (Sound-valid board valid))
