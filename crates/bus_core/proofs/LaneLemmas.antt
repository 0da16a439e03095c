-- A lane claims an operation.
use Rattle.std.proofs.Common.{◌≡◌, ◌≢◌, ℕ, Bool, true, false, ◌==◌, List, [], ◌++◌, map, Option, Some, None, refl, sym, ap, subst, ◌∙◌, slice_get}
use Rattle.std.specs.List.{position}
use Rattle.std.proofs.lemmas.Bool.{eqb-true, eqb-false, eq-eqb}
use Rattle.std.proofs.lemmas.List.{append-nil}
use Rattle.pci_command.specs.declared.request.Request.{Request}
use Rattle.pci_command.specs.declared.op_id.OpId.{OpId}
use Rattle.board_model.specs.declared.bridge.Bridge.{Bridge}
use Rattle.board_model.specs.declared.bridge.Lane.{Lane as BridgeLane}
use Rattle.board_model.specs.declared.bridge.Place.TheVariants.{Lane, Nobody}
use Rattle.board_model.specs.declared.board.Board.{Board}
use Rattle.board_model.specs.Claims.{claim}
use Rattle.board_model.specs.Ways.{end_of, lane_back}
use Rattle.history_model.specs.declared.event.By.{By}
use Rattle.history_model.specs.declared.event.By.TheVariants.{Master, Lane as ByLane}
use Rattle.history_model.specs.declared.event.Event.{Event}
use Rattle.history_model.specs.declared.event.Step.TheVariants.{Accept, Latch, Take, MasterAbort}
use Rattle.history_model.specs.declared.item.Answer.{Answer}
use Rattle.history_model.specs.declared.item.Answer.TheVariants.{Gives, Retry}
use Rattle.history_model.specs.declared.item.Cause.{Cause}
use Rattle.history_model.specs.Lanes.{LaneState}
use Rattle.history_model.specs.World.{World, same_lane, same_initiator, enters}
use Rattle.history_model.specs.Answers.{bridge_to, lane_answer, answer_by, answer_to, answer_in}
use Rattle.history_model.proofs.facts.BridgeLemmas.{lane_back_back, same_lane_true, same_lane_self}
use Rattle.law_lanes.proofs.Laws.{claim_starts, WellFormed-numbers}
use Rattle.law_local.proofs.Laws.{end_back}
use Rattle.lane_items.specs.declared.item.Item.{Item}
use Rattle.bus_face.specs.declared.reply.Reply.{Reply}
use Rattle.bus_face.specs.declared.reply.Reply.TheVariants.{Accepted, Latched, Taken, Retry as Retried}
use Rattle.bus_face.specs.Arrivals.{carried}
use Rattle.bus_face.specs.Replies.{as_answer}
use Rattle.bus_face.specs.OnLanes.{sent_by}
use Rattle.bus_core.specs.port.Port.{PortView, PortStands}
use Rattle.bus_core.specs.port.Calls.{after_answer, Replies}
use Rattle.bus_core.proofs.port.MoveLemmas.{moved_apart, other_bridge_leaves}
use Rattle.bus_core.specs.Bus.{BusView, Shape, shape_of, arrivals_at, IsOf, AreLines, BusStands}
use Rattle.bus_core.specs.Calls.{items_at, IsLine, Answered, ClaimedBack}
use Rattle.bus_core.specs.Parts.{IsClaimed, PlaceAnswers, PlaceTurns}
use Rattle.bus_core.specs.Places.{RespondsAt, sent_over}
use Rattle.bus_core.proofs.ListLemmas.{one_map, one_same, one_each, get_map, map_get, found_at, none_at}
use Rattle.bus_core.proofs.CalmLemmas.{IsCalm, calm_target, calm_through, calm_parts, unmoved}

-- a reply is at no target
reply_calm : (lane : BridgeLane) (reply : Reply) → IsCalm (as_answer lane reply)
reply_calm lane Accepted = refl
reply_calm lane (Latched slot) = refl
reply_calm lane (Taken slot outcome) = refl
reply_calm lane (Retried cause) = tt

-- it moves the lanes of no other bridge
reply_apart : (board : Board) (bus : ℕ) (by : By) (o : OpId) (lane : BridgeLane) (reply : Reply) (world : World) (l : BridgeLane) → l.bus ≢ lane.bus → after_answer board bus by o (as_answer lane reply) world l ≡ world l
reply_apart board bus by o lane Accepted world l apart = moved_apart (enters board bus by o Accept) lane world l apart
reply_apart board bus by o lane (Latched slot) world l apart = moved_apart (enters board bus by o Latch) lane world l apart
reply_apart board bus by o lane (Taken slot outcome) world l apart = moved_apart (enters board bus by o (Take outcome)) lane world l apart
reply_apart board bus by o lane (Retried cause) world l apart = refl

reply_leaves : (board : Board) (bus : ℕ) (tags : By → OpId → ℕ) (by : By) (o : OpId) (lane : BridgeLane) (reply : Reply) (world : World) (port : PortView) → port.lane.bus ≢ lane.bus → PortStands board bus tags port world
    → PortStands board bus tags port (after_answer board bus by o (as_answer lane reply) world)
reply_leaves board bus tags by o lane Accepted world port apart stands = other_bridge_leaves board bus tags port world (enters board bus by o Accept) lane apart stands
reply_leaves board bus tags by o lane (Latched slot) world port apart stands = other_bridge_leaves board bus tags port world (enters board bus by o Latch) lane apart stands
reply_leaves board bus tags by o lane (Taken slot outcome) world port apart stands = other_bridge_leaves board bus tags port world (enters board bus by o (Take outcome)) lane apart stands
reply_leaves board bus tags by o lane (Retried cause) world port apart stands = stands

-- what it sends is sent at its port
over_here : (place : ℕ) (o : OpId) (stamp : ℕ) (reply : Reply) → map carried (items_at (sent_over place o stamp reply) place) ≡ sent_by o reply
over_here place o stamp Accepted = let self : (place == place) ≡ true = eq-eqb place place refl in rw self refl
over_here place o stamp (Latched slot) = let self : (place == place) ≡ true = eq-eqb place place refl in rw self refl
over_here place o stamp (Taken slot outcome) = refl
over_here place o stamp (Retried cause) = refl

over_other : (place : ℕ) (o : OpId) (stamp : ℕ) (reply : Reply) (n : ℕ) → (place == n) ≡ false → items_at (sent_over place o stamp reply) n ≡ []
over_other place o stamp Accepted n apart = rw apart refl
over_other place o stamp (Latched slot) n apart = rw apart refl
over_other place o stamp (Taken slot outcome) n apart = refl
over_other place o stamp (Retried cause) n apart = refl

module _ (board : Board) (tags : By → OpId → ℕ) (world : World) (p : List Event) (by : By) (o : OpId) (s : BusView) (lane : BridgeLane) (line : ℕ) (request rest : Request)
    (is_line : IsLine board s.bus tags by o line) (stands : BusStands board tags world p s) (claimed : IsClaimed board s.bus p o request rest (Lane lane)) where
  answered_lane : answer_in board world p s.bus by o ≡ lane_answer board world s.bus by o rest lane (bridge_to board lane.bus)
  answered_lane =
      ap (answer_to board world p s.bus by o) claimed.is_request
      ∙ (ap (λ r. answer_by board world p s.bus by o r (claim board s.bus r)) (sym claimed.is_rest)
      ∙ ap (answer_by board world p s.bus by o rest) claimed.claims)

  -- no port: there is no such bridge, and nobody answers
  no_bridge : position (λ (port : PortView). same_lane port.lane (lane_back lane)) s.ports ≡ None → bridge_to board lane.bus ≡ None
  no_bridge none =
      let P : Option Bridge → Type 0 = λ found. bridge_to board lane.bus ≡ found → found ≡ None in
      (elim (bridge_to board lane.bus) as P [
        | None ↦ λ _. refl
        | Some bridge ↦ λ is.
            let ends : end_of board (lane_back lane) ≡ s.bus = end_back board lane ∙ claim_starts board s.bus rest lane (WellFormed-numbers board claimed.formed) claimed.claims in
            let has = stands.is_of.each_lane (lane_back lane) bridge is ends in
            let port = map_get (λ (port : PortView). port.lane) s.ports has.0 (lane_back lane) has.1 in
            let fails : same_lane port.0.lane (lane_back lane) ≡ false = none_at (λ (one : PortView). same_lane one.lane (lane_back lane)) s.ports none has.0 port.0 port.1.0 in
            let passes : same_lane port.0.lane (lane_back lane) ≡ true = ap (λ l. same_lane l (lane_back lane)) port.1.1 ∙ same_lane_self (lane_back lane) in
            let wrong : true ≡ false = sym passes ∙ fails in cc
      ]) refl

  pub nobody_there : position (λ (port : PortView). same_lane port.lane (lane_back lane)) s.ports ≡ None → Answered board tags world p by o s (Gives MasterAbort Nobody) None s
  nobody_there none =
      unmoved board tags world p by o s (Gives MasterAbort Nobody) refl refl (answered_lane ∙ ap (lane_answer board world s.bus by o rest lane) (no_bridge none)) stands

  -- the port of the initiator itself: the lane is the lane back of the one that presents
  pub turned_back : (place : ℕ) → position (λ (port : PortView). same_lane port.lane (lane_back lane)) s.ports ≡ Some place → place ≡ line → ClaimedBack board s.bus p by o
  turned_back place found own =
      let port = found_at (λ (one : PortView). same_lane one.lane (lane_back lane)) s.ports place found in
      let at : port.0.lane ≡ lane_back lane = same_lane_true port.0.lane (lane_back lane) port.1.1 in
      let there = stands.ports place port.0 port.1.0 in
      let tag = (stands.lines.lanes place port.0.lane o (get_map (λ (one : PortView). one.lane) s.ports place port.0 port.1.0)).0 in
      let same : same_initiator (ByLane port.0.lane) o by o ≡ true =
      is_line.tells (ByLane port.0.lane) o there.ends ∙ eq-eqb (tags (ByLane port.0.lane) o) line (tag ∙ own) in
      let Q : By → Type 0 = λ b. same_initiator (ByLane port.0.lane) o b o ≡ true → b ≡ ByLane port.0.lane in
      let is_by : by ≡ ByLane port.0.lane = (elim by as Q [
        | Master ↦ λ e. cc
        | ByLane l ↦ λ e. ap ByLane (sym (same_lane_true port.0.lane l e))
      ]) same in
      let back : lane ≡ lane_back port.0.lane = sym (lane_back_back lane) ∙ ap lane_back (sym at) in
      record {
        lane = port.0.lane;
        is_by = is_by;
        request = request;
        is_request = claimed.is_request;
        claims = ap (claim board s.bus) (sym claimed.is_rest) ∙ (claimed.claims ∙ ap Lane back);
      }

  module _ (place : ℕ) (ports : List PortView) (reply : Reply) (stamp : ℕ) (found : position (λ (port : PortView). same_lane port.lane (lane_back lane)) s.ports ≡ Some place)
      (responds : RespondsAt place s.ports line o request reply ports) where
    there : PortStands board s.bus tags responds.before world
    there = stands.ports place responds.before responds.one.was

    at_lane : lane_back responds.before.lane ≡ lane
    at_lane =
        let port = found_at (λ (one : PortView). same_lane one.lane (lane_back lane)) s.ports place found in
        let both = sym port.1.0 ∙ responds.one.was in
        let one : port.0 ≡ responds.before = cc in
        let at : port.0.lane ≡ lane_back lane = same_lane_true port.0.lane (lane_back lane) port.1.1 in
        ap lane_back (sym (ap (λ (x : PortView). x.lane) one) ∙ at) ∙ lane_back_back lane

    replied : Replies board s.bus tags world by o request responds.before.lane reply responds.after
    replied = responds.replies.replies board s.bus tags world by (record { request_is = claimed.is_request; tag_is = is_line.line_is; tells = is_line.tells; there = is_line.there }) there

    answer_here : answer_in board world p s.bus by o ≡ as_answer lane reply
    answer_here =
        let F : BridgeLane → Type 0 = λ k. as_answer k reply ≡ lane_answer board world s.bus by o request k (bridge_to board k.bus) in
        let same : as_answer lane reply ≡ lane_answer board world s.bus by o request lane (bridge_to board lane.bus) = subst F at_lane replied.answer in
        let B : BridgeLane → Type 0 = λ k. bridge_to board k.bus ≡ Some there.bridge in
        let bridge : bridge_to board lane.bus ≡ Some there.bridge = subst B at_lane there.is_bridge in
        let command : lane_answer board world s.bus by o rest lane (Some there.bridge) ≡ lane_answer board world s.bus by o request lane (Some there.bridge) =
        ap (λ r. lane_answer board world s.bus by o r lane (Some there.bridge)) claimed.is_rest in
        answered_lane ∙ (ap (lane_answer board world s.bus by o rest lane) bridge ∙ (command ∙ (sym (ap (lane_answer board world s.bus by o request lane) bridge) ∙ sym same)))

    apart_from : (n : ℕ) (port : PortView) → n ≢ place → slice_get s.ports n ≡ Some port → port.lane.bus ≢ lane.bus
    apart_from n port differ is =
        let f : PortView → BridgeLane = λ one. one.lane in
        let apart : port.lane.bus ≢ responds.before.lane.bus = stands.is_of.lanes_apart n place port.lane responds.before.lane (get_map f s.ports n port is) (get_map f s.ports place responds.before responds.one.was) differ in
        λ same. apart (same ∙ sym (ap (λ (k : BridgeLane). k.bus) at_lane))

    pub lane_answers : Answered board tags world p by o s (as_answer lane reply) (sent_over place o stamp reply) (record s { ports = ports })
    lane_answers =
        let answer : Answer = as_answer lane reply in
        let w : World = after_answer board s.bus by o answer world in
        let f : PortView → BridgeLane = λ one. one.lane in
        let lanes : map f ports ≡ map f s.ports = one_map f place s.ports ports responds.before responds.after responds.one responds.lane in
        let S : List BridgeLane → Shape = λ l. record { bus = s.bus; lanes = l; masters = (shape_of s).masters; targets = (shape_of s).targets } in
        let W : BridgeLane → World = λ k. after_answer board s.bus by o (as_answer k reply) world in
        let here : PortStands board s.bus tags responds.after w = subst (λ k. PortStands board s.bus tags responds.after (W k)) at_lane replied.stands in
        record {
          answer_is = answer_here;
          stands = record {
            is_of = subst (λ l. IsOf board (S l)) (sym lanes) stands.is_of;
            lines = subst (λ l. AreLines board tags (S l)) (sym lanes) stands.lines;
            ports = one_each (λ _ port. PortStands board s.bus tags port w) place s.ports ports responds.before responds.after responds.one here
                (λ n port differ is. reply_leaves board s.bus tags by o lane reply world port (apart_from n port differ is) (stands.ports n port is));
            masters = stands.masters;
            targets = λ n t is. calm_target board s.bus by o answer p t (reply_calm lane reply) (stands.targets n t is);
            through = calm_through board s.bus by o answer p s.through (reply_calm lane reply) stands.through;
            parts = calm_parts board s.bus by o answer p (reply_calm lane reply) stands.parts;
          };
          flights = record {
            to_bus = λ n l is.
                let port = map_get f s.ports n l is in
                let P : Bool → Type 0 = λ b. (n == place) ≡ b → (w l).flight ≡ (world l).flight in
                (elim (n == place) as P [
                  | true ↦ λ same.
                      let at : slice_get s.ports place ≡ Some port.0 = subst (λ m. slice_get s.ports m ≡ Some port.0) (eqb-true n place same) port.1.0 in
                      let both = sym at ∙ responds.one.was in
                      let one : port.0 ≡ responds.before = cc in
                      let own : l ≡ responds.before.lane = sym port.1.1 ∙ ap f one in
                      let left : (w responds.before.lane).flight ≡ (world responds.before.lane).flight = subst (λ k. (W k responds.before.lane).flight ≡ (world responds.before.lane).flight) at_lane replied.left in
                      subst (λ k. (w k).flight ≡ (world k).flight) (sym own) left
                  | false ↦ λ differ.
                      let apart : l.bus ≢ lane.bus = subst (λ (k : BridgeLane). k.bus ≢ lane.bus) port.1.1 (apart_from n port.0 (eqb-false n place differ) port.1.0) in
                      ap (λ (x : LaneState). x.flight) (reply_apart board s.bus by o lane reply world l apart)
                ]) refl;
            from_bus = λ n l is.
                let port = map_get f s.ports n l is in
                let puts : List Item = items_at (sent_over place o stamp reply) n in
                let P : Bool → Type 0 = λ b. (place == n) ≡ b → (w (lane_back l)).flight ≡ (world (lane_back l)).flight ++ map carried puts in
                (elim (place == n) as P [
                  | true ↦ λ same.
                      let number : place ≡ n = eqb-true place n same in
                      let at : slice_get s.ports place ≡ Some port.0 = subst (λ m. slice_get s.ports m ≡ Some port.0) (sym number) port.1.0 in
                      let both = sym at ∙ responds.one.was in
                      let one : port.0 ≡ responds.before = cc in
                      let own : l ≡ responds.before.lane = sym port.1.1 ∙ ap f one in
                      let sent : (w (lane_back responds.before.lane)).flight ≡ (world (lane_back responds.before.lane)).flight ++ sent_by o reply =
                      subst (λ k. (W k (lane_back responds.before.lane)).flight ≡ (world (lane_back responds.before.lane)).flight ++ sent_by o reply) at_lane replied.sent in
                      let here_sent : (w (lane_back l)).flight ≡ (world (lane_back l)).flight ++ sent_by o reply =
                      subst (λ k. (w (lane_back k)).flight ≡ (world (lane_back k)).flight ++ sent_by o reply) (sym own) sent in
                      here_sent ∙ ap (λ q. (world (lane_back l)).flight ++ q) (sym (over_here place o stamp reply) ∙ ap (λ m. map carried (items_at (sent_over place o stamp reply) m)) number)
                  | false ↦ λ differ.
                      let differ_n : n ≢ place = λ e. eqb-false place n differ (sym e) in
                      let apart : l.bus ≢ lane.bus = subst (λ (k : BridgeLane). k.bus ≢ lane.bus) port.1.1 (apart_from n port.0 differ_n port.1.0) in
                      ap (λ (x : LaneState). x.flight) (reply_apart board s.bus by o lane reply world (lane_back l) apart)
                      ∙ (sym (append-nil (world (lane_back l)).flight) ∙ ap (λ q. (world (lane_back l)).flight ++ map carried q) (sym (over_other place o stamp reply n differ)))
                ]) refl;
          };
        }

-- so it is whatever the past
pub lane_nobody : (board : Board) (s : BusView) (lane : BridgeLane) (line : ℕ) (o : OpId) (request rest : Request) → position (λ (port : PortView). same_lane port.lane (lane_back lane)) s.ports ≡ None
    → PlaceAnswers board s (Lane lane) line o request rest (Gives MasterAbort Nobody) None s
lane_nobody board s lane line o request rest none =
    record { answers = λ tags world p by is_line stands claimed. nobody_there board tags world p by o s lane line request rest is_line stands claimed none }

pub lane_turns : (board : Board) (s : BusView) (lane : BridgeLane) (line : ℕ) (o : OpId) (request rest : Request) (place : ℕ) → position (λ (port : PortView). same_lane port.lane (lane_back lane)) s.ports ≡ Some place → place ≡ line
    → PlaceTurns board s (Lane lane) line o request rest
lane_turns board s lane line o request rest place found own =
    record { turns = λ tags world p by is_line stands claimed. turned_back board tags world p by o s lane line request rest is_line stands claimed place found own }

pub lane_replies : (board : Board) (s : BusView) (lane : BridgeLane) (line : ℕ) (o : OpId) (request rest : Request) (place : ℕ) (ports : List PortView) (reply : Reply) (stamp : ℕ)
    → position (λ (port : PortView). same_lane port.lane (lane_back lane)) s.ports ≡ Some place → RespondsAt place s.ports line o request reply ports
    → PlaceAnswers board s (Lane lane) line o request rest (as_answer lane reply) (sent_over place o stamp reply) (record s { ports = ports })
lane_replies board s lane line o request rest place ports reply stamp found responds =
    record { answers = λ tags world p by is_line stands claimed. lane_answers board tags world p by o s lane line request rest is_line stands claimed place ports reply stamp found responds }

-- a port that responded has its lane as before
pub ports_shape : (s : BusView) (place line : ℕ) (o : OpId) (request : Request) (reply : Reply) (ports : List PortView) → RespondsAt place s.ports line o request reply ports → shape_of (record s { ports = ports }) ≡ shape_of s
ports_shape s place line o request reply ports responds =
    let f : PortView → BridgeLane = λ one. one.lane in
    let S : List BridgeLane → Shape = λ l. record { bus = s.bus; lanes = l; masters = (shape_of s).masters; targets = (shape_of s).targets } in
    ap S (one_map f place s.ports ports responds.before responds.after responds.one responds.lane)

pub ports_arrivals : (s : BusView) (place line : ℕ) (o : OpId) (request : Request) (reply : Reply) (ports : List PortView) → RespondsAt place s.ports line o request reply ports → arrivals_at (record s { ports = ports }) ≡ arrivals_at s
ports_arrivals s place line o request reply ports responds = one_map (λ (one : PortView). one.face.arrivals) place s.ports ports responds.before responds.after responds.one responds.arrivals

-- a port that answered with Retry is as before
retried_reply : (lane : BridgeLane) (reply : Reply) (cause : Cause) → as_answer lane reply ≡ Retry cause → reply ≡ Retried cause
retried_reply lane Accepted cause is = cc
retried_reply lane (Latched slot) cause is = cc
retried_reply lane (Taken slot outcome) cause is = cc
retried_reply lane (Retried other) cause is = let same : other ≡ cause = cc in ap Retried same

pub ports_stay : (place line : ℕ) (o : OpId) (request : Request) (lane : BridgeLane) (reply : Reply) (cause : Cause) (old ports : List PortView) → RespondsAt place old line o request reply ports → as_answer lane reply ≡ Retry cause → ports ≡ old
ports_stay place line o request lane reply cause old ports responds is =
    one_same place old ports responds.before responds.after responds.one (responds.retried.stays cause (retried_reply lane reply cause is))
