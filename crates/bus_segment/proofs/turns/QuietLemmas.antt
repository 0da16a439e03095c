-- A turn that did nothing: there was nothing to do.
use Rattle.std.proofs.Common.{◌≡◌, ℕ, ◌+◌, ◌<◌, ◌≤◌, Bool, true, false, ◌==◌, List, [], ◌∷◌, length, map, Option, Some, None, refl, sym, ap, subst, ◌∙◌, arith, slice_get}
use Rattle.std.specs.Int.{bit_at}
use Rattle.std.proofs.lemmas.Bool.{and_parts, eqb-true}
use Rattle.std.proofs.lemmas.Option.{slice_get_within}
use Rattle.std.proofs.lemmas.Nat.Bits.{bit_at-zero}
use Rattle.pci_command.specs.declared.op_id.OpId.{OpId}
use Rattle.board_model.specs.Limits.{most_agents, most_ports, most_lines}
use Rattle.board_model.specs.declared.bridge.Bridge.{Bridge}
use Rattle.board_model.specs.declared.board.Board.{Board}
use Rattle.board_model.specs.Ways.{end_of}
use Rattle.history_model.specs.declared.event.By.{By}
use Rattle.history_model.specs.declared.event.By.TheVariants.{Master, Lane as ByLane}
use Rattle.history_model.specs.declared.item.Carried.{Carried}
use Rattle.history_model.specs.Lanes.{LaneState}
use Rattle.history_model.specs.Program.{turn_of}
use Rattle.history_model.specs.World.{World}
use Rattle.history_model.specs.Answers.{is_on, is_turn, bridge_to, presents, wants_in, answer_in}
use Rattle.law_local.specs.Stamps.{events_of}
use Rattle.law_local.specs.Quiet.{IsRetry}
use Rattle.lane_items.specs.declared.item.Item.{Item}
use Rattle.bus_face.specs.Arrivals.{carried}
use Rattle.bus_core.specs.Bus.{BusView, shape_of}
use Rattle.bus_segment.specs.Segment.{Keeps, all_carried, lanes_known}
use Rattle.bus_segment.specs.Turn.{HasNothingToDo}
use Rattle.bus_segment.specs.Steps.{GetsRetry}
use Rattle.bus_segment.proofs.Laws.{none_elsewhere}
use Rattle.bus_segment.specs.turns.Works.{seen, AllRetried, GivesOnlyRetries, NoneInHand}

module _ {End : Type 0} (had got : End → List Item) (board : Board) (old : BusView) (stamp : ℕ) (stopped : Bool) (few_ports : length (shape_of old).lanes ≤ most_ports) (few_masters : length (shape_of old).masters ≤ most_agents) (going : stopped ≡ false) where
  -- nothing stands on an empty lane
  nothing_presented : (bus : ℕ) (o : OpId) (standing : List Carried) → standing ≡ [] → presents board bus o standing ≡ true → ⊥
  nothing_presented bus o [] is shown = cc
  nothing_presented bus o (item ∷ standing) is shown = cc

  pub nothing_to_do : (new : BusView) (mid after : List End) → NoneInHand had got mid → AllRetried board 0 old new mid after → HasNothingToDo had got board (seen old stamp stopped) after
  nothing_to_do new mid after none all =
      record {
        nothing_in_hand = λ n end is. none.none n end (ap (λ l. slice_get l n) (sym all.same_ends) ∙ is);
        retried = λ came p rest put past by o wants.
            let w : World = lanes_known board came p in
            let keeping : Keeps board w p old = past.keeps going in
            let stands = keeping.stands in
            let bit : (line : ℕ) → bit_at 0 line ≡ 0 = bit_at-zero in
            let P : By → Type 0 = λ b. wants_in board w (events_of p) old.bus b o ≡ true → IsRetry (answer_in board w (events_of p) old.bus b o) in
            (elim by as P [
              | Master ↦ λ wanted.
                  let there = and_parts (is_on old.bus (slice_get board.masters o.master)) (is_turn o (turn_of board (events_of p) o.master)) wanted in
                  let at = stands.is_of.each_master o.master there.0 in
                  let within = slice_get_within (shape_of old).masters at.0 o.master at.1 in
                  let low : most_ports + at.0 < most_lines = omega (arith, within, few_masters) in
                  let retry : GetsRetry board old Master o = (all.retried (most_ports + at.0) low (bit (most_ports + at.0))).retried Master o (at.0, refl, at.1) in
                  retry.retry keeping.tags w (events_of p) stands wanted
              | ByLane lane ↦ λ wanted.
                  let there = and_parts (end_of board lane == old.bus) (presents board old.bus o (w lane).standing) wanted in
                  let ends : end_of board lane ≡ old.bus = eqb-true (end_of board lane) old.bus there.0 in
                  let Q : Option Bridge → Type 0 = λ found. bridge_to board lane.bus ≡ found → IsRetry (answer_in board w (events_of p) old.bus (ByLane lane) o) in
                  (elim (bridge_to board lane.bus) as Q [
                    | None ↦ λ gone.
                        let empty = none_elsewhere board old.bus (all_carried came) (λ l no. ap (map carried) (past.bridges l no)) (events_of p) past.run lane gone in
                        absurd (nothing_presented old.bus o (w lane).standing (ap (λ (s : LaneState). s.standing) empty) there.1)
                    | Some bridge ↦ λ is_bridge.
                        let at = stands.is_of.each_lane lane bridge is_bridge ends in
                        let within = slice_get_within (shape_of old).lanes at.0 lane at.1 in
                        let low : at.0 < most_lines = omega (arith, within, few_ports) in
                        let retry : GetsRetry board old (ByLane lane) o = (all.retried at.0 low (bit at.0)).retried (ByLane lane) o at.1 in
                        retry.retry keeping.tags w (events_of p) stands wanted
                  ]) refl
            ]) wants;
      }

-- what was learnt of the bus holds of it still, and it need not be served to know it again
module _ {End : Type 0} (board : Board) where
  pub only_retries : (old new : BusView) (ends after : List End) → AllRetried board 0 old new ends after → GivesOnlyRetries board new
  only_retries old new ends after all = subst (GivesOnlyRetries board) (sym all.same_bus) (record { retried = λ line low. all.retried line low (bit_at-zero line) })

  pub retried_again : (s : BusView) (ends : List End) → GivesOnlyRetries board s → AllRetried board 0 s s ends ends
  retried_again s ends only = record { same_ends = refl; same_bus = refl; retried = λ line low bit. only.retried line low }
