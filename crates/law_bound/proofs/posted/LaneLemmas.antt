-- Each act of a lane that presents a posted write lowers what is left.
use Rattle.std.proofs.Common.{◌≡◌, ℕ, ◌+◌, ◌*◌, ◌-◌, ◌≤◌, Bool, true, List, ◌∷◌, length, Some, refl, sym, ap, subst, ◌∙◌, arith}
use Rattle.std.specs.List.{find}
use Rattle.list_facts.specs.Lists.{less, total}
use Rattle.list_facts.proofs.TotalLemmas.{found, total-le, total-less}
use Rattle.pci_command.specs.declared.op_id.OpId.{OpId}
use Rattle.pci_command.specs.declared.op_id.Outcome.{Outcome}
use Rattle.pci_command.specs.declared.op_id.Outcome.TheVariants.{Written, Aborted}
use Rattle.pci_command.specs.Same.{same_op}
use Rattle.board_model.specs.declared.bridge.Lane.{Lane as BridgeLane}
use Rattle.board_model.specs.declared.bridge.Place.{Place}
use Rattle.board_model.specs.declared.bridge.Place.TheVariants.{Target, Header, Lane, Nobody}
use Rattle.board_model.specs.declared.op.Op.{Op}
use Rattle.board_model.specs.declared.board.Board.{Board}
use Rattle.board_model.specs.Requests.{op_of, phases_of, request_on, request_of, is_posted, reads}
use Rattle.board_model.specs.Claims.{claim}
use Rattle.board_model.specs.Ways.{end_of, way, pieces_of}
use Rattle.history_model.specs.declared.event.By.TheVariants.{Lane as ByLane}
use Rattle.history_model.specs.declared.event.Step.{Step}
use Rattle.history_model.specs.declared.event.Step.TheVariants.{Land, Part, Read, Accept, Latch, Take, Stall, MasterAbort, TargetAbort}
use Rattle.history_model.specs.declared.event.Event.{Event}
use Rattle.history_model.specs.declared.event.Event.TheVariants.{Act}
use Rattle.history_model.specs.declared.item.Carried.TheVariants.{Post}
use Rattle.history_model.specs.declared.item.Answer.TheVariants.{Gives}
use Rattle.history_model.specs.Lanes.{is_of, post_enters, item_ends}
use Rattle.history_model.specs.World.{World, moved, unclaimed, mode_of, world_of}
use Rattle.history_model.specs.Program.{turn_of}
use Rattle.history_model.specs.Words.{through}
use Rattle.history_model.specs.Answers.{wants, answer}
use Rattle.history_model.specs.Runs.{Run}
use Rattle.history_model.specs.Left.{flying_left, standing_left, bridge_left, left_of}
use Rattle.history_model.proofs.facts.AnswerLemmas.{answered_at}
use Rattle.law_lanes.proofs.Laws.{wants-at}
use Rattle.history_model.proofs.facts.RequestLemmas.{same_op_self}
use Rattle.law_lanes.specs.order.Order.{is_posted_in, is_posted_op}
use Rattle.history_model.proofs.facts.PostedLemmas.{PostedAt, posted_answered}
use Rattle.law_bound.proofs.posted.SumLemmas.{over-falls}
use Rattle.law_bound.proofs.posted.AlikeLemmas.{AlikeWorlds, Alike-self, Alike-then}
use Rattle.law_bound.proofs.posted.ProgramLemmas.{lane_weight, world_weight, flying_falls, standing_falls, lane_falls, programs_fall, lanes_fall, stalls_fall, left_falls}
use Rattle.law_bound.proofs.posted.MoveLemmas.{enters_alike, enters_stands, enters_weight, leaves_alike, leaves_weight}
use Rattle.law_bound.proofs.posted.StallLemmas.{stalls_lower}
use Rattle.law_bound.proofs.posted.PostLemmas.{OfBridge, stands_posted, stands_bridge, WayGoesOn, way_goes_on, piece_left, whole_claimed, part_falls, standing_weight, flying_weight}
use Rattle.law_bound.proofs.posted.FitLemmas.{Fit}

-- where one that is found weighs one less and none weighs more, all weigh one less
found-falls : {X : Type 0} (f g : X → ℕ) (test : X → Bool) (xs : List X) (x : X) → ((y : X) → f y ≤ g y) → find test xs ≡ Some x → f x + 1 ≤ g x → total f xs + 1 ≤ total g xs
found-falls f g test xs x below is falls =
    omega (
      arith,
      total-less f test xs,
      total-less g test xs,
      ap (found f) is,
      ap (found g) is,
      total-le f g below (less test xs),
    )

module _ (board : Board) (fit : Fit board) (h : List Event) (run : Run board h) (o : OpId) (op : Op) (is_op : op_of board o ≡ Some op) (posted : is_posted_op board o ≡ true) (some : 1 ≤ length (phases_of op))
    (on : ℕ) (k : BridgeLane) (wanted : wants board h on (ByLane k) o ≡ true) where
  -- what is on the lanes before the event
  abbrev world : World
  world = world_of board h

  -- how many data phases are left
  abbrev rest : ℕ
  rest = length (phases_of op) - through h o

  -- the posted write stands on the lane
  stands : find (is_of o) (world k).standing ≡ Some (Post o)
  stands = stands_posted board h on k o posted run wanted

  -- the lane is one of a bridge
  of : OfBridge board k
  of = stands_bridge board h k o run stands

  -- what the posted write has left there
  weighs : standing_left board h k (Post o) ≡ 3 * length (way board op (end_of board k)) + pieces_of board op (end_of board k) rest + 1
  weighs = standing_weight board fit.tree fit.one fit.whole fit.take o op is_op posted some h run k

  -- at least one piece of it is left
  piece : (bus : ℕ) → 1 ≤ pieces_of board op bus rest
  piece bus = piece_left board fit.tree fit.one fit.whole fit.take o op is_op posted some h run bus

  -- all lanes weigh what is left on all bridges
  before : total (bridge_left board h) board.bridges ≡ world_weight board h world
  before = refl

  -- it ends there: it leaves, and its credit goes back
  ends_lower : (e : Event) (outcome : Outcome) → world_of board (e ∷ h) ≡ moved (item_ends o outcome) k world → ((i : ℕ) → turn_of board (e ∷ h) i ≡ turn_of board h i) → left_of board (e ∷ h) + 1 ≤ left_of board h
  ends_lower e outcome worlds turns =
      let alike : AlikeWorlds (world_of board (e ∷ h)) world = subst (λ w. AlikeWorlds w world) (sym worlds) (leaves_alike o outcome k world stands) in
      let weight = leaves_weight board h fit.distinct o outcome k world of.bridge of.is_bridge stands in
      let same : world_weight board h (world_of board (e ∷ h)) ≡ world_weight board h (moved (item_ends o outcome) k world) = ap (world_weight board h) worlds in
      left_falls board h e alike 0 (standing_left board h k (Post o)) 1 0
      (omega (arith, programs_fall board h e alike turns))
      (omega (arith, lanes_fall board h e alike, same, weight, before))
      (omega (arith, stalls_fall board h e alike))
      (omega (arith, weighs, piece (end_of board k)))

  -- the next bridge accepts it
  accept_lowers : (lane : BridgeLane) → answer board h on (ByLane k) o ≡ Gives Accept (Lane lane) → left_of board (Act on (ByLane k) o Accept (Lane lane) ∷ h) + 1 ≤ left_of board h
  accept_lowers lane gives =
      let e : Event = Act on (ByLane k) o Accept (Lane lane) in
      let middle : World = moved (post_enters o) lane world in
      let at = answered_at board h on (ByLane k) o Accept lane gives in
      let stays : find (is_of o) (middle k).standing ≡ Some (Post o) = ap (find (is_of o)) (enters_stands o lane world k) ∙ stands in
      let alike : AlikeWorlds (world_of board (e ∷ h)) world =
      λ l. Alike-then (world_of board (e ∷ h) l) (middle l) (world l) (leaves_alike o Written k middle stays l) (enters_alike o lane world l) in
      let first = enters_weight board h fit.distinct o lane world at.bridge at.is_bridge in
      let second = leaves_weight board h fit.distinct o Written k middle of.bridge of.is_bridge stays in
      let bus : end_of board k ≡ on = wants-at board h on (ByLane k) o wanted in
      let claims : claim board on (request_on op on) ≡ Lane lane = whole_claimed board fit.tree fit.one fit.whole fit.take o op is_op posted some h run on at.request (Lane lane) at.is_request at.claims in
      let goes : WayGoesOn board op on lane = way_goes_on board op on lane fit.tree claims in
      let goes_there : WayGoesOn board op (end_of board k) lane = subst (λ n. WayGoesOn board op n lane) (sym bus) goes in
      let flying = flying_weight board fit.tree fit.one fit.whole fit.take o op is_op posted some h run lane in
      let long : length (way board op (end_of board k)) ≡ 1 + length (way board op (end_of board lane)) = ap length goes_there.first ∙ omega arith in
      left_falls board h e alike 0 (standing_left board h k (Post o)) (flying_left board h lane (Post o) + 1) 0
      (omega (arith, programs_fall board h e alike (λ i. refl)))
      (omega (arith, lanes_fall board h e alike, first, second, before))
      (omega (arith, stalls_fall board h e alike))
      (omega (arith, weighs, flying, long, goes_there.pieces rest))

  -- a target takes a part of it
  part_lowers : (phases place : ℕ) → answer board h on (ByLane k) o ≡ Gives (Part phases) (Target place) → left_of board (Act on (ByLane k) o (Part phases) (Target place) ∷ h) + 1 ≤ left_of board h
  part_lowers phases place gives =
      let e : Event = Act on (ByLane k) o (Part phases) (Target place) in
      let alike : AlikeWorlds (world_of board (e ∷ h)) world = λ l. Alike-self (world l) in
      let bus : end_of board k ≡ on = wants-at board h on (ByLane k) o wanted in
      let self : same_op o o ≡ true = same_op_self o in
      let gone : through (e ∷ h) o ≡ phases + through h o = rw self refl in
      let falls = part_falls board fit.tree fit.one fit.whole fit.take o op is_op posted some h run on (ByLane k) phases (Target place) gives in
      let there : pieces_of board op (end_of board k) (length (phases_of op) - (phases + through h o)) + 1 ≤ pieces_of board op (end_of board k) rest =
      subst (λ n. pieces_of board op n (length (phases_of op) - (phases + through h o)) + 1 ≤ pieces_of board op n rest) (sym bus) falls in
      let after : standing_left board (e ∷ h) k (Post o) ≡ 3 * length (way board op (end_of board k)) + pieces_of board op (end_of board k) (length (phases_of op) - through (e ∷ h) o) + 1 = rw is_op refl in
      let less : pieces_of board op (end_of board k) (length (phases_of op) - through (e ∷ h) o) ≡ pieces_of board op (end_of board k) (length (phases_of op) - (phases + through h o)) =
      ap (λ n. pieces_of board op (end_of board k) (length (phases_of op) - n)) gone in
      let one : standing_left board (e ∷ h) k (Post o) + 1 ≤ standing_left board h k (Post o) = omega (arith, after, weighs, less, there) in
      let f : BridgeLane → ℕ = λ l. lane_weight board (e ∷ h) l (world l) in
      let g : BridgeLane → ℕ = λ l. lane_weight board h l (world l) in
      let standing = found-falls (standing_left board (e ∷ h) k) (standing_left board h k) (is_of o) (world k).standing (Post o) (standing_falls board h e alike k) stands one in
      let flying = total-le (flying_left board (e ∷ h) k) (flying_left board h k) (flying_falls board h e alike k) (world k).flight in
      let here : f k + 1 ≤ g k = omega (arith, standing, flying) in
      let lanes : total (bridge_left board (e ∷ h)) board.bridges + 1 ≤ total (bridge_left board h) board.bridges = over-falls f g board k 1 of.bridge fit.distinct of.is_bridge (λ l. lane_falls board h e alike l (world l)) here in
      left_falls board h e alike 0 1 0 0
      (omega (arith, programs_fall board h e alike (λ i. refl)))
      (omega (arith, lanes))
      (omega (arith, stalls_fall board h e alike))
      (omega arith)

  -- each step that a lane is given
  lane_act : (step : Step) (place : Place) → answer board h on (ByLane k) o ≡ Gives step place → PostedAt step place → left_of board (Act on (ByLane k) o step place ∷ h) + 1 ≤ left_of board h
  lane_act Land (Target place) gives at = ends_lower (Act on (ByLane k) o Land (Target place)) Written refl (λ i. refl)
  lane_act Land (Header bus) gives at = absurd at
  lane_act Land (Lane lane) gives at = absurd at
  lane_act Land Nobody gives at = absurd at
  lane_act (Part phases) (Target place) gives at = part_lowers phases place gives
  lane_act (Part phases) (Header bus) gives at = absurd at
  lane_act (Part phases) (Lane lane) gives at = absurd at
  lane_act (Part phases) Nobody gives at = absurd at
  lane_act (Read value) place gives at = absurd at
  lane_act Accept (Target place) gives at = absurd at
  lane_act Accept (Header bus) gives at = absurd at
  lane_act Accept (Lane lane) gives at = accept_lowers lane gives
  lane_act Accept Nobody gives at = absurd at
  lane_act Latch place gives at = absurd at
  lane_act (Take outcome) place gives at = absurd at
  lane_act Stall place gives at = stalls_lower board h on (ByLane k) o place gives
  lane_act MasterAbort (Target place) gives at = ends_lower (Act on (ByLane k) o MasterAbort (Target place)) (unclaimed (mode_of board k.bus) (reads board o)) refl (λ i. refl)
  lane_act MasterAbort (Header bus) gives at = ends_lower (Act on (ByLane k) o MasterAbort (Header bus)) (unclaimed (mode_of board k.bus) (reads board o)) refl (λ i. refl)
  lane_act MasterAbort (Lane lane) gives at = absurd (answered_at board h on (ByLane k) o MasterAbort lane gives).gives
  lane_act MasterAbort Nobody gives at = ends_lower (Act on (ByLane k) o MasterAbort Nobody) (unclaimed (mode_of board k.bus) (reads board o)) refl (λ i. refl)
  lane_act TargetAbort (Target place) gives at = ends_lower (Act on (ByLane k) o TargetAbort (Target place)) Aborted refl (λ i. refl)
  lane_act TargetAbort (Header bus) gives at = absurd at
  lane_act TargetAbort (Lane lane) gives at = absurd at
  lane_act TargetAbort Nobody gives at = absurd at

  -- so each act of a lane
  pub lanes_lower : (step : Step) (place : Place) → answer board h on (ByLane k) o ≡ Gives step place → left_of board (Act on (ByLane k) o step place ∷ h) + 1 ≤ left_of board h
  lanes_lower step place gives =
      let requested : request_of board o on ≡ Some (request_on op on) = rw is_op refl in
      let write : is_posted (request_on op on) ≡ true = sym (ap is_posted_in is_op) ∙ posted in
      lane_act step place gives (posted_answered board h on (ByLane k) o (request_on op on) step place requested write gives)
