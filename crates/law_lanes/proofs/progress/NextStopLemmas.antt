-- There is a next event exactly where the run is not complete.
use Rattle.std.proofs.Common.{◌≡◌, ◌↔◌, ℕ, Bool, true, false, List, [], Option, Some, None, refl, sym, subst, ⊎_elim}
use Rattle.std.specs.Prelude.{IfSome}
use Rattle.std.proofs.lemmas.Bool.{eqb-true}
use Rattle.list_facts.proofs.EachLemmas.{Each-find}
use Rattle.list_facts.proofs.FindLemmas.{find_passes}
use Rattle.board_model.specs.declared.bridge.Bridge.{Bridge}
use Rattle.board_model.specs.declared.bridge.Lane.{Lane as BridgeLane}
use Rattle.board_model.specs.declared.board.Board.{Board}
use Rattle.board_model.specs.WellFormed.{has_bus}
use Rattle.board_model.specs.Valid.{IsValid}
use Rattle.history_model.specs.declared.event.By.TheVariants.{Master, Lane as ByLane}
use Rattle.history_model.specs.declared.event.Event.{Event}
use Rattle.history_model.specs.declared.event.Event.TheVariants.{Act, Arrive}
use Rattle.history_model.specs.declared.item.Carried.{Carried}
use Rattle.history_model.specs.World.{world_of}
use Rattle.history_model.specs.Program.{turn_of}
use Rattle.history_model.specs.Answers.{bridge_to, presents}
use Rattle.history_model.specs.Runs.{Run, Allowed, IsIdle, Complete, mark_of_first}
use Rattle.law_lanes.specs.progress.Next.{Next}
use Rattle.law_lanes.proofs.progress.SoundLemmas.{Sound-valid}
use Rattle.law_lanes.proofs.progress.ArrivalLemmas.{no_bridge_empty}
use Rattle.law_lanes.proofs.progress.GoOnLemmas.{goes_on}
use Rattle.board_model.specs.Fits.{BoardFits}
use Rattle.history_model.specs.Next.{next_of}
use Rattle.law_lanes.proofs.progress.NextSoundLemmas.{next_allowed}
use Rattle.law_lanes.proofs.progress.NextWantLemmas.{at_master, master_wants, lane_wants}
use Rattle.law_lanes.proofs.progress.NextVainLemmas.{none_allowed}

module _ (board : Board) (h : List Event) (run : Run board h) where
  -- where a run is complete every lane is idle
  idle_lane : Complete board h → (lane : BridgeLane) → IsIdle (world_of board h lane)
  idle_lane complete lane =
      let Idle : ℕ → Bool → Type 0 = λ bus up. IsIdle (world_of board h (record { bus = bus; up = up })) in
      let F : Bridge → Type 0 = λ bridge. Idle bridge.bus false × Idle bridge.bus true in
      let P : Option Bridge → Type 0 = λ found. bridge_to board lane.bus ≡ found → IsIdle (world_of board h lane) in
      (elim (bridge_to board lane.bus) as P [
        | None ↦ λ none. subst IsIdle (sym (no_bridge_empty board h lane run none)) (refl, refl)
        | Some bridge ↦ λ found.
            let each : F bridge = Each-find F (has_bus lane.bus) board.bridges bridge complete.idle found in
            let same : bridge.bus ≡ lane.bus = eqb-true bridge.bus lane.bus (find_passes (has_bus lane.bus) board.bridges bridge found) in
            let Q : Bool → Type 0 = λ up. Idle lane.bus up in
            elim lane.up as Q [ true ↦ subst (λ (bus : ℕ). Idle bus true) same each.1 | false ↦ subst (λ (bus : ℕ). Idle bus false) same each.0 ]
      ]) refl

  -- and no event is allowed
  complete_stops : Complete board h → (e : Event) → Allowed board h e → ⊥
  complete_stops complete (Arrive lane mark) is =
      let idle : IsIdle (world_of board h lane) = idle_lane complete lane in
      let nothing : mark_of_first board lane (world_of board h lane) [] ≡ Some mark = subst (λ (flight : List Carried). mark_of_first board lane (world_of board h lane) flight ≡ Some mark) idle.0 is in
      cc
  complete_stops complete (Act on Master o step place) is =
      let wanted = master_wants board h on o is.0 in
      let turn : turn_of board h o.master ≡ Some o = wanted.1 in
      let ended : turn_of board h o.master ≡ None = complete.ended o.master (at_master on board.masters o.master wanted.0) in
      cc
  complete_stops complete (Act on (ByLane lane) o step place) is =
      let presented : presents board on o (world_of board h lane).standing ≡ true = (lane_wants board h on lane o is.0).1 in
      let idle : IsIdle (world_of board h lane) = idle_lane complete lane in
      let nothing : presents board on o [] ≡ true = subst (λ (xs : List Carried). presents board on o xs ≡ true) idle.1 presented in
      cc

  -- the run is complete where there is no next event
  stops_complete : IsValid board → BoardFits board → next_of board h ≡ None → Complete board h
  stops_complete valid fits none =
      ⊎_elim {C = Complete board h}
      (λ (next : Next board h). absurd (none_allowed board h run fits none next.event next.allowed))
      (λ complete. complete)
      (goes_on board h run (Sound-valid board valid))

  -- there is no next event where the run is complete
  pub complete_none : Complete board h → next_of board h ≡ None
  complete_none complete =
      let P : Option Event → Type 0 = λ some. IfSome some (Allowed board h) → some ≡ None in
      (elim (next_of board h) as P [ None ↦ λ _. refl | Some e ↦ λ is. absurd (complete_stops complete e is) ]) (next_allowed board h)

-- there is no next event exactly where the run is complete
pub next_complete : (board : Board) (h : List Event) → IsValid board → BoardFits board → Run board h → (next_of board h ≡ None) ↔ Complete board h
next_complete board h valid fits run = (stops_complete board h run valid fits, complete_none board h run)
