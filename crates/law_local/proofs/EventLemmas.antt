-- An event of one bus keeps that every bus knows its part.
use Rattle.std.proofs.Common.{◌≡◌, ◌≢◌, ℕ, Bool, true, false, cond, List, [], ◌++◌, eqb, Option, Some, None, refl, sym, ap, subst, ◌∙◌, arith}
use Rattle.std.specs.List.{find}
use Rattle.std.proofs.lemmas.Bool.{eqb-true}
use Rattle.std.proofs.lemmas.Bool.Decides.{nat_tests}
use Rattle.std.proofs.lemmas.List.{append-nil, append_assoc}
use Rattle.pci_command.specs.declared.op_id.OpId.{OpId}
use Rattle.pci_command.specs.declared.op_id.Outcome.{Outcome}
use Rattle.board_model.specs.declared.bridge.Lane.{Lane as BridgeLane}
use Rattle.board_model.specs.declared.bridge.Place.{Place}
use Rattle.board_model.specs.declared.bridge.Place.TheVariants.{Target, Header, Lane, Nobody}
use Rattle.board_model.specs.declared.board.Board.{Board}
use Rattle.board_model.specs.Ways.{start_of, end_of, lane_back}
use Rattle.history_model.specs.declared.event.By.{By}
use Rattle.history_model.specs.declared.event.By.TheVariants.{Master, Lane as ByLane}
use Rattle.history_model.specs.declared.event.Mark.{Mark}
use Rattle.history_model.specs.declared.event.Step.{Step}
use Rattle.history_model.specs.declared.item.Carried.{Carried}
use Rattle.history_model.specs.Lanes.{LaneState, Both, reply_to, is_of, item_ends, arrives}
use Rattle.history_model.specs.World.{World, same_lane, both, moved, enters, at_place, lane_outcome, leaves, at_initiator}
use Rattle.law_local.proofs.HalfLemmas.{Half, MovesHalf}
use Rattle.law_local.specs.Known.{Joint}
use Rattle.law_local.proofs.HalfLemmas.{enters_half, ends_half, arrives_half}
use Rattle.law_local.proofs.JointLemmas.{end_back, start_back, moved_here, moved_back, moved_other, by_lanes, Joints, Joints-moved}
use Rattle.history_model.proofs.facts.BridgeLemmas.{flip, lane_back_back, both_back}

-- the worlds of the buses, with that of one bus replaced
abbrev pub replaced : (ℕ → World) → ℕ → World → ℕ → World
replaced knows bus world other = cond (eqb other bus) world (knows other)

-- on that bus it is the new one
pub replaced_there : (knows : ℕ → World) (bus : ℕ) (world : World) → replaced knows bus world bus ≡ world
replaced_there knows bus world = let same : eqb bus bus ≡ true = grind (arith, nat_tests) in rw same refl

-- on any other bus the old one
pub replaced_elsewhere : (knows : ℕ → World) (bus : ℕ) (world : World) (other : ℕ) → other ≢ bus → replaced knows bus world other ≡ knows other
replaced_elsewhere knows bus world other differ =
    let P : Bool → Type 0 = λ b. eqb other bus ≡ b → cond b world (knows other) ≡ knows other in
    (elim (eqb other bus) as P [ true ↦ λ same. absurd (differ (eqb-true other bus same)) | false ↦ λ _. refl ]) refl

-- worlds that agree on every lane
pub Joints-alike : (board : Board) (sent : BridgeLane → List Carried) (world other : World) (knows next : ℕ → World)
    → ((l : BridgeLane) → world l ≡ other l) → ((bus : ℕ) (l : BridgeLane) → knows bus l ≡ next bus l) → Joints board sent world knows → Joints board sent other next
Joints-alike board sent world other knows next worlds alike old l =
    subst (λ (near : LaneState). Joint (sent l) (other l) (next (end_of board l) l) near) (alike (start_of board l) l)
    (subst (λ (far : LaneState). Joint (sent l) (other l) far (knows (start_of board l) l)) (alike (end_of board l) l)
    (subst (λ (w : LaneState). Joint (sent l) w (knows (end_of board l) l) (knows (start_of board l) l)) (worlds l) (old l)))

-- a move seen from the lane back
abbrev pub turned : (Both → Both) → Both → Both
turned move x = flip (move (flip x))

-- the same move, seen from either lane of the bridge
moved_turned : (move : Both → Both) (lane : BridgeLane) (world : World) (l : BridgeLane) → moved (turned move) (lane_back lane) world l ≡ moved move lane world l
moved_turned move lane world =
    let back : BridgeLane = lane_back lane in
    let twice : lane_back back ≡ lane = lane_back_back lane in
    let flipped : flip (both world back) ≡ both world lane = ap flip (both_back world lane) in
    let Goal : BridgeLane → Type 0 = λ l. moved (turned move) back world l ≡ moved move lane world l in
    let here : moved (turned move) back world (lane_back back) ≡ (move (both world lane)).here = moved_back (turned move) back world ∙ ap (λ x. (move x).here) flipped in
    let at_lane : Goal lane = subst (λ l. moved (turned move) back world l ≡ (move (both world lane)).here) twice here ∙ sym (moved_here move lane world) in
    let at_back : Goal back = moved_here (turned move) back world ∙ (ap (λ x. (move x).back) flipped ∙ sym (moved_back move lane world)) in
    by_lanes Goal lane at_lane at_back
    (λ l apart apart_back. moved_other (turned move) back world l apart_back (subst (λ k. same_lane l k ≡ false) (sym twice) apart) ∙ sym (moved_other move lane world l apart apart_back))

-- what a bus sends is in flight behind what it sent before
pub record Grows (before after : LaneState) : Type 0 where
  pub items : List Carried
  pub grown : after.flight ≡ before.flight ++ items

-- what a lane sends for the item that left it
leaves_grow : (lane : BridgeLane) (o : OpId) (outcome : Option Outcome) (world : World) (l : BridgeLane) → Grows (world l) (leaves lane o outcome world l)
leaves_grow lane o None world l = record { items = []; grown = sym (append-nil (world l).flight) }
leaves_grow lane o (Some outcome) world l =
    let move : Both → Both = item_ends o outcome in
    let Goal : BridgeLane → Type 0 = λ l. Grows (world l) (moved move lane world l) in
    let at_lane : Goal lane = subst (Grows (world lane)) (sym (moved_here move lane world)) record { items = []; grown = sym (append-nil (world lane).flight) } in
    let at_back : Goal (lane_back lane) = subst (Grows (world (lane_back lane))) (sym (moved_back move lane world)) record { items = reply_to outcome (find (is_of o) (world lane).standing); grown = refl } in
    by_lanes Goal lane at_lane at_back (λ k apart apart_back. subst (Grows (world k)) (sym (moved_other move lane world k apart apart_back)) record { items = []; grown = sym (append-nil (world k).flight) }) l

-- on every lane only more is in flight after what an event does at its initiator
pub initiator_grows : (board : Board) (by : By) (o : OpId) (step : Step) (world : World) (l : BridgeLane) → Grows (world l) (at_initiator board by o step world l)
initiator_grows board Master o step world l = record { items = []; grown = sym (append-nil (world l).flight) }
initiator_grows board (ByLane lane) o step world l = leaves_grow lane o (lane_outcome board lane o step) world l

-- what is in flight is the front of what is ever sent
abbrev pub IsFront : List Carried → LaneState → Type 0
IsFront all state = (more : List Carried) × (state.flight ++ more ≡ all)

-- what was in flight before is a front too
pub front_before : (all : List Carried) (before after : LaneState) → Grows before after → IsFront all after → IsFront all before
front_before all before after grows front =
    (grows.items ++ front.0, sym (append_assoc before.flight grows.items front.0) ∙ (ap (λ flight. flight ++ front.0) (sym grows.grown) ∙ front.1))

module _ (board : Board) (sent : BridgeLane → List Carried) where
  -- the bus moves the bridge of a lane that begins there
  one_move : (world : World) (knows : ℕ → World) (lane : BridgeLane) (move : Both → Both) (bus : ℕ)
      → start_of board lane ≡ bus → end_of board lane ≢ bus
      → ((later : List Carried) → Half later (both world lane) (both (knows bus) lane) → MovesHalf later (both world lane) (move (both world lane)) (both (knows bus) lane) (move (both (knows bus) lane)))
      → IsFront (sent lane) (moved move lane (knows bus) lane)
      → Joints board sent world knows → Joints board sent (moved move lane world) (replaced knows bus (moved move lane (knows bus)))
  one_move world knows lane move bus starts apart keeps front old =
      let Goal : ℕ → Type 0 = λ n.
      end_of board lane ≢ n
      → ((later : List Carried) → Half later (both world lane) (both (knows n) lane) → MovesHalf later (both world lane) (move (both world lane)) (both (knows n) lane) (move (both (knows n) lane)))
      → IsFront (sent lane) (moved move lane (knows n) lane)
      → Joints board sent (moved move lane world) (replaced knows n (moved move lane (knows n))) in
      let from : ℕ = start_of board lane in
      let at_start : Goal from = λ differ kept first.
      let next : ℕ → World = replaced knows from (moved move lane (knows from)) in
      let there : next from ≡ moved move lane (knows from) = replaced_there knows from (moved move lane (knows from)) in
      Joints-moved board sent world knows next lane move (record {
        apart = differ;
        keeps = kept;
        there = λ l. ap (λ (w : World). w l) there;
        elsewhere = λ n l apart_from. ap (λ (w : World). w l) (replaced_elsewhere knows from (moved move lane (knows from)) n apart_from);
        more = first.0;
        is_sent = ap (λ (w : World). (w lane).flight ++ first.0) there ∙ first.1;
      }) old in
      (subst Goal starts at_start) apart keeps front

  -- a bus that does nothing knows what it knew
  same_worlds : (world : World) (knows : ℕ → World) (bus : ℕ) → Joints board sent world knows → Joints board sent world (replaced knows bus (knows bus))
  same_worlds world knows bus old =
      let alike : (n : ℕ) (l : BridgeLane) → knows n l ≡ replaced knows bus (knows bus) n l =
      λ n l. let P : Bool → Type 0 = λ b. eqb n bus ≡ b → knows n l ≡ (cond b (knows bus) (knows n)) l in
      (elim (eqb n bus) as P [ true ↦ λ same. ap (λ m. knows m l) (eqb-true n bus same) | false ↦ λ _. refl ]) refl in
      Joints-alike board sent world world knows (replaced knows bus (knows bus)) (λ l. refl) alike old

  -- what a step does at the lane that claimed, which begins on the bus
  place_joint : (world : World) (knows : ℕ → World) (on : ℕ) (by : By) (o : OpId) (step : Step) (place : Place)
      → ((lane : BridgeLane) → place ≡ Lane lane → (start_of board lane ≡ on) × (end_of board lane ≢ on))
      → ((l : BridgeLane) → start_of board l ≡ on → IsFront (sent l) (at_place board on by o step place (knows on) l))
      → Joints board sent world knows → Joints board sent (at_place board on by o step place world) (replaced knows on (at_place board on by o step place (knows on)))
  place_joint world knows on by o step (Target target) begins front old = same_worlds world knows on old
  place_joint world knows on by o step (Header bus) begins front old = same_worlds world knows on old
  place_joint world knows on by o step (Lane lane) begins front old =
      let there = begins lane refl in
      one_move world knows lane (enters board on by o step) on there.0 there.1
      (λ later half. enters_half board on by o step later (both world lane) (both (knows on) lane) half)
      (front lane there.0) old
  place_joint world knows on by o step Nobody begins front old = same_worlds world knows on old

  -- a move of a lane that ends on the bus
  back_move : (world : World) (knows : ℕ → World) (lane : BridgeLane) (move : Both → Both) (bus : ℕ)
      → end_of board lane ≡ bus → start_of board lane ≢ bus
      → ((later : List Carried) (w x : Both) → w ≡ both world (lane_back lane) → Half later w x → MovesHalf later w (turned move w) x (turned move x))
      → IsFront (sent (lane_back lane)) (moved move lane (knows bus) (lane_back lane))
      → Joints board sent world knows → Joints board sent (moved move lane world) (replaced knows bus (moved move lane (knows bus)))
  back_move world knows lane move bus ends apart keeps front old =
      let back : BridgeLane = lane_back lane in
      let first : IsFront (sent back) (moved (turned move) back (knows bus) back) = subst (IsFront (sent back)) (sym (moved_turned move lane (knows bus) back)) front in
      let done = one_move world knows back (turned move) bus (start_back board lane ∙ ends) (λ same. apart (sym (end_back board lane) ∙ same))
      (λ later half. keeps later (both world back) (both (knows bus) back) refl half) first old in
      let alike : (n : ℕ) (l : BridgeLane) → replaced knows bus (moved (turned move) back (knows bus)) n l ≡ replaced knows bus (moved move lane (knows bus)) n l =
      λ n l. let P : Bool → Type 0 = λ b. (cond b (moved (turned move) back (knows bus)) (knows n)) l ≡ (cond b (moved move lane (knows bus)) (knows n)) l in
      elim (eqb n bus) as P [ true ↦ moved_turned move lane (knows bus) l | false ↦ refl ] in
      Joints-alike board sent (moved (turned move) back world) (moved move lane world) (replaced knows bus (moved (turned move) back (knows bus))) (replaced knows bus (moved move lane (knows bus)))
      (moved_turned move lane world) alike done

  -- an item that leaves the lane that presented it, which ends on the bus
  leaves_joint : (world : World) (knows : ℕ → World) (on : ℕ) (lane : BridgeLane) (o : OpId) (outcome : Option Outcome)
      → end_of board lane ≡ on → start_of board lane ≢ on
      → ((l : BridgeLane) → start_of board l ≡ on → IsFront (sent l) (leaves lane o outcome (knows on) l))
      → Joints board sent world knows → Joints board sent (leaves lane o outcome world) (replaced knows on (leaves lane o outcome (knows on)))
  leaves_joint world knows on lane o None ends apart front old = same_worlds world knows on old
  leaves_joint world knows on lane o (Some outcome) ends apart front old =
      back_move world knows lane (item_ends o outcome) on ends apart (λ later w x _ half. ends_half o outcome later w x half)
      (front (lane_back lane) (start_back board lane ∙ ends)) old

  -- what an event does at its initiator
  initiator_joint : (world : World) (knows : ℕ → World) (on : ℕ) (by : By) (o : OpId) (step : Step)
      → ((lane : BridgeLane) → by ≡ ByLane lane → (end_of board lane ≡ on) × (start_of board lane ≢ on))
      → ((l : BridgeLane) → start_of board l ≡ on → IsFront (sent l) (at_initiator board by o step (knows on) l))
      → Joints board sent world knows → Joints board sent (at_initiator board by o step world) (replaced knows on (at_initiator board by o step (knows on)))
  initiator_joint world knows on Master o step ends front old = same_worlds world knows on old
  initiator_joint world knows on (ByLane lane) o step ends front old =
      let there = ends lane refl in
      leaves_joint world knows on lane o (lane_outcome board lane o step) there.0 there.1 front old

  -- an arrival of an item that is in flight in the world
  pub arrive_joint : (world : World) (knows : ℕ → World) (lane : BridgeLane) (mark : Mark)
      → start_of board lane ≢ end_of board lane → (world lane).flight ≢ []
      → ((l : BridgeLane) → start_of board l ≡ end_of board lane → IsFront (sent l) (moved (arrives mark) lane (knows (end_of board lane)) l))
      → Joints board sent world knows → Joints board sent (moved (arrives mark) lane world) (replaced knows (end_of board lane) (moved (arrives mark) lane (knows (end_of board lane))))
  arrive_joint world knows lane mark apart some front old =
      back_move world knows lane (arrives mark) (end_of board lane) refl apart
      (λ later w x is half. arrives_half mark later w x
      (λ none. some (ap (λ l. (world l).flight) (sym (lane_back_back lane)) ∙ (ap (λ (y : Both). y.back.flight) (sym is) ∙ none))) half)
      (front (lane_back lane) (start_back board lane)) old

  -- an act: what it does where it was claimed, and then at its initiator
  pub act_joint : (world : World) (knows : ℕ → World) (on : ℕ) (by : By) (o : OpId) (step : Step) (place : Place)
      → ((lane : BridgeLane) → place ≡ Lane lane → (start_of board lane ≡ on) × (end_of board lane ≢ on))
      → ((lane : BridgeLane) → by ≡ ByLane lane → (end_of board lane ≡ on) × (start_of board lane ≢ on))
      → ((l : BridgeLane) → start_of board l ≡ on → IsFront (sent l) (at_initiator board by o step (at_place board on by o step place (knows on)) l))
      → Joints board sent world knows
      → Joints board sent (at_initiator board by o step (at_place board on by o step place world)) (replaced knows on (at_initiator board by o step (at_place board on by o step place (knows on))))
  act_joint world knows on by o step place begins ends front old =
      let mid : World = at_place board on by o step place (knows on) in
      let front_mid : (l : BridgeLane) → start_of board l ≡ on → IsFront (sent l) (mid l) =
      λ l starts. front_before (sent l) (mid l) (at_initiator board by o step mid l) (initiator_grows board by o step mid l) (front l starts) in
      let first = place_joint world knows on by o step place begins front_mid old in
      let next : ℕ → World = replaced knows on mid in
      let there : next on ≡ mid = replaced_there knows on mid in
      let front_next : (l : BridgeLane) → start_of board l ≡ on → IsFront (sent l) (at_initiator board by o step (next on) l) =
      λ l starts. subst (λ (w : World). IsFront (sent l) (at_initiator board by o step w l)) (sym there) (front l starts) in
      let second = initiator_joint (at_place board on by o step place world) next on by o step ends front_next first in
      let alike : (n : ℕ) (l : BridgeLane) → replaced next on (at_initiator board by o step (next on)) n l ≡ replaced knows on (at_initiator board by o step mid) n l =
      λ n l. let P : Bool → Type 0 = λ b. (cond b (at_initiator board by o step (next on)) (cond b mid (knows n))) l ≡ (cond b (at_initiator board by o step mid) (knows n)) l in
      elim (eqb n on) as P [ true ↦ ap (λ (w : World). at_initiator board by o step w l) there | false ↦ refl ] in
      let done : World = at_initiator board by o step (at_place board on by o step place world) in
      Joints-alike board sent done done (replaced next on (at_initiator board by o step (next on))) (replaced knows on (at_initiator board by o step mid)) (λ l. refl) alike second
