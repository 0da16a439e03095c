-- Each posted write is in one place, in every run.
use Rattle.std.proofs.Common.{◌≡◌, ℕ, ◌+◌, ◌≤◌, Bool, true, false, not, ◌&&◌, ◌==◌, cond, List, [], ◌∷◌, ◌++◌, Option, Some, None, is_some, refl, sym, ap, subst, ◌∙◌, arith}
use Rattle.list_facts.specs.Lists.{total}
use Rattle.list_facts.proofs.TotalLemmas.{total-append}
use Rattle.pci_command.specs.declared.request.Request.{Request}
use Rattle.pci_command.specs.declared.op_id.OpId.{OpId}
use Rattle.pci_command.specs.declared.op_id.Outcome.TheVariants.{Written}
use Rattle.pci_command.specs.Same.{same_op}
use Rattle.board_model.specs.declared.op.Op.{Op}
use Rattle.board_model.specs.declared.bridge.Bridge.{Bridge}
use Rattle.board_model.specs.declared.bridge.Lane.{Lane as BridgeLane}
use Rattle.board_model.specs.declared.bridge.Place.{Place}
use Rattle.board_model.specs.declared.bridge.Place.TheVariants.{Target, Header, Lane, Nobody}
use Rattle.board_model.specs.declared.board.Board.{Board}
use Rattle.board_model.specs.Requests.{op_of, request_on, request_of, is_posted}
use Rattle.board_model.specs.Ways.{end_of}
use Rattle.history_model.specs.declared.event.By.{By}
use Rattle.history_model.specs.declared.event.By.TheVariants.{Master, Lane as ByLane}
use Rattle.history_model.specs.declared.event.Step.{Step}
use Rattle.history_model.specs.declared.event.Step.TheVariants.{Land, Part, Read, Accept, Latch, Take, Stall, MasterAbort, TargetAbort}
use Rattle.history_model.specs.declared.event.Event.{Event}
use Rattle.history_model.specs.declared.event.Event.TheVariants.{Act, Arrive}
use Rattle.history_model.specs.declared.item.Carried.{Carried}
use Rattle.history_model.specs.declared.item.Answer.TheVariants.{Gives}
use Rattle.history_model.specs.Lanes.{LaneState, empty_lane}
use Rattle.history_model.specs.World.{same_lane, lane_outcome, world_of}
use Rattle.history_model.specs.Answers.{wants, bridge_to, answer, presents}
use Rattle.history_model.specs.Runs.{Allowed, Run}
use Rattle.law_lanes.specs.Depths.{DifferentNumbers}
use Rattle.history_model.proofs.facts.AnswerLemmas.{answered_at}
use Rattle.law_lanes.proofs.Laws.{Quiet-empty, run_no_bridge}
use Rattle.history_model.proofs.facts.RequestLemmas.{same_op_true}
use Rattle.law_lanes.specs.order.Order.{posts, is_posted_in, is_posted_op, accepted_at, entering, entered, leaves_by, leaving, left}
use Rattle.law_lanes.specs.order.Masters.{is_accept, is_master, accepts_from_master}
use Rattle.law_lanes.specs.order.One.{times, ends_at_master, is_land, is_abort, lands_from_master, lands_from_lane, lost_from_lane, one_of, on_lane, over_lanes, on_lanes, OnePost}
use Rattle.std.proofs.lemmas.Bool.{and_parts}
use Rattle.law_lanes.proofs.order.OrderRunLemmas.{InOrder-run}
use Rattle.law_lanes.proofs.order.OnceLemmas.{ends_once}
use Rattle.history_model.proofs.facts.PostedLemmas.{PostedAt, posted_answered}
use Rattle.law_lanes.proofs.order.LaneSums.{over-same, over-plus, over-zero, over-one}

-- a bridge accepts the operation from a bridge
abbrev accepts_from_lane : OpId → Event → Bool
accepts_from_lane o (Act on by op step place) = not (is_master by) && is_accept step && same_op op o
accepts_from_lane o (Arrive lane mark) = false

abbrev bit : Bool → ℕ
bit b = cond b 1 0

-- a write in memory has a request, which is posted
pub record PostedRequest (board : Board) (on : ℕ) (o : OpId) : Type 0 where
  pub request : Request
  pub is_request : request_of board o on ≡ Some request
  pub posted : is_posted request ≡ true

pub posted_request : (board : Board) (on : ℕ) (o : OpId) → is_posted_op board o ≡ true → PostedRequest board on o
posted_request board on o is =
    let P : Option Op → Type 0 = λ found. op_of board o ≡ found → is_posted_in found ≡ true → PostedRequest board on o in
    (elim (op_of board o) as P [
      | None ↦ λ none e. cc
      | Some op ↦ λ some e.
          let requested : request_of board o on ≡ Some (request_on op on) = rw some refl in
          record { request = request_on op on; is_request = requested; posted = e }
    ]) refl is

posted_at : (board : Board) (h : List Event) (on : ℕ) (by : By) (o p : OpId) (step : Step) (at : Place) → is_posted_op board o ≡ true → same_op p o ≡ true → answer board h on by p ≡ Gives step at → PostedAt step at
posted_at board h on by o p step at is same gives =
    let one : p ≡ o = same_op_true p o same in
    let asked = posted_request board on o is in
    posted_answered board h on by o asked.request step at asked.is_request asked.posted (subst (λ q. answer board h on by q ≡ Gives step at) one gives)

-- what enters

accept_bits : (by : By) (same : Bool) → bit (is_master by && true && same) + bit (not (is_master by) && true && same) ≡ bit same
accept_bits Master same = omega arith
accept_bits (ByLane lane) same = omega arith

no_bits : (by : By) (same : Bool) → bit (is_master by && false && same) + bit (not (is_master by) && false && same) ≡ 0
no_bits Master same = refl
no_bits (ByLane lane) same = refl

accepted_one : (o p : OpId) (here : Bool) → total (one_of o) (cond here (p ∷ []) []) ≡ cond here (bit (same_op p o)) 0
accepted_one o p true = omega arith
accepted_one o p false = refl

module _ (board : Board) (o : OpId) (distinct : DifferentNumbers board) (posted : is_posted_op board o ≡ true) where
  accept_sum : (h : List Event) (on : ℕ) (by : By) (p : OpId) (place : Place) → answer board h on by p ≡ Gives Accept place
      → over_lanes (λ l. total (one_of o) (accepted_at l p place)) board ≡ bit (same_op p o)
  accept_sum h on by p (Target target) gives =
      let P : Bool → Type 0 = λ b. same_op p o ≡ b → 0 ≡ bit b in
      over-zero (λ l. 0) board (λ l. refl)
      ∙ (elim (same_op p o) as P [ true ↦ λ same. absurd (posted_at board h on by o p Accept (Target target) posted same gives) | false ↦ λ _. refl ]) refl
  accept_sum h on by p (Header bus) gives =
      let P : Bool → Type 0 = λ b. same_op p o ≡ b → 0 ≡ bit b in
      over-zero (λ l. 0) board (λ l. refl)
      ∙ (elim (same_op p o) as P [ true ↦ λ same. absurd (posted_at board h on by o p Accept (Header bus) posted same gives) | false ↦ λ _. refl ]) refl
  accept_sum h on by p (Lane at) gives =
      let claimed = answered_at board h on by p Accept at gives in
      let n : ℕ = bit (same_op p o) in
      over-same (λ l. total (one_of o) (accepted_at l p (Lane at))) (λ l. cond (same_lane at l) n 0) board (λ l. accepted_one o p (same_lane at l))
      ∙ over-one board at n claimed.bridge distinct claimed.is_bridge
  accept_sum h on by p Nobody gives =
      let P : Bool → Type 0 = λ b. same_op p o ≡ b → 0 ≡ bit b in
      over-zero (λ l. 0) board (λ l. refl)
      ∙ (elim (same_op p o) as P [ true ↦ λ same. absurd (posted_at board h on by o p Accept Nobody posted same gives) | false ↦ λ _. refl ]) refl

  abbrev Entering : Event → Type 0
  Entering e = over_lanes (λ l. total (one_of o) (entering l e)) board ≡ bit (accepts_from_master o e) + bit (accepts_from_lane o e)

  none_enters : (on : ℕ) (by : By) (p : OpId) → over_lanes (λ l. 0) board ≡ bit (is_master by && false && same_op p o) + bit (not (is_master by) && false && same_op p o)
  none_enters on by p = over-zero (λ l. 0) board (λ l. refl) ∙ sym (no_bits by (same_op p o))

  act_enters : (h : List Event) (on : ℕ) (by : By) (p : OpId) (step : Step) (place : Place) → answer board h on by p ≡ Gives step place → Entering (Act on by p step place)
  act_enters h on by p Land place gives = none_enters on by p
  act_enters h on by p (Part phases) place gives = none_enters on by p
  act_enters h on by p (Read value) place gives = none_enters on by p
  act_enters h on by p Accept place gives = accept_sum h on by p place gives ∙ sym (accept_bits by (same_op p o))
  act_enters h on by p Latch place gives = none_enters on by p
  act_enters h on by p (Take outcome) place gives = none_enters on by p
  act_enters h on by p Stall place gives = none_enters on by p
  act_enters h on by p MasterAbort place gives = none_enters on by p
  act_enters h on by p TargetAbort place gives = none_enters on by p

  event_enters : (h : List Event) (e : Event) → Allowed board h e → Entering e
  event_enters h (Act on by p step place) allowed = act_enters h on by p step place allowed.1
  event_enters h (Arrive lane mark) allowed = over-zero (λ l. 0) board (λ l. refl)

  entered_sum : (h : List Event) → Run board h → over_lanes (λ l. total (one_of o) (entered l h)) board ≡ times (accepts_from_master o) h + times (accepts_from_lane o) h
  entered_sum [] run = over-zero (λ l. 0) board (λ l. refl)
  entered_sum (e ∷ h) run =
      let both = over-plus (λ l. total (one_of o) (entered l h)) (λ l. total (one_of o) (entering l e)) (λ l. total (one_of o) (entered l (e ∷ h))) board
      (λ l. total-append (one_of o) (entered l h) (entering l e)) in
      omega (arith, both, entered_sum h run.1, event_enters h e run.0)

  -- what leaves

  abbrev ends_bits : By → Step → Bool → ℕ
  ends_bits by step same = bit (not (is_master by) && is_accept step && same) + bit (not (is_master by) && is_land step && same) + bit (not (is_master by) && is_abort step && same)

  step_bits : (k : BridgeLane) (p : OpId) (step : Step) (place : Place) → PostedAt step place → bit (is_some (lane_outcome board k p step)) ≡ ends_bits (ByLane k) step true
  step_bits k p Land place at = refl
  step_bits k p (Part phases) place at = refl
  step_bits k p (Read value) place at = absurd at
  step_bits k p Accept place at = refl
  step_bits k p Latch place at = absurd at
  step_bits k p (Take outcome) place at = absurd at
  step_bits k p Stall place at = refl
  step_bits k p MasterAbort place at = refl
  step_bits k p TargetAbort place at = refl

  other_bits : (k : BridgeLane) (step : Step) → ends_bits (ByLane k) step false ≡ 0
  other_bits k Land = refl
  other_bits k (Part phases) = refl
  other_bits k (Read value) = refl
  other_bits k Accept = refl
  other_bits k Latch = refl
  other_bits k (Take outcome) = refl
  other_bits k Stall = refl
  other_bits k MasterAbort = refl
  other_bits k TargetAbort = refl

  gone_one : (p : OpId) (here write ends : Bool) → total (one_of o) (cond (here && write && ends) (p ∷ []) []) ≡ cond here (cond write (cond ends (bit (same_op p o)) 0) 0) 0
  gone_one p true true true = omega arith
  gone_one p true true false = refl
  gone_one p true false ends = refl
  gone_one p false write ends = refl

  none_zero : (b : Bool) (n : ℕ) → n ≡ 0 → cond b n 0 ≡ 0
  none_zero true n none = none
  none_zero false n none = refl

  -- a lane that presents is of a bridge of the board
  record OfBridge (k : BridgeLane) : Type 0 where
    bridge : Bridge
    is_bridge : bridge_to board k.bus ≡ Some bridge

  presents_bridge : (h : List Event) (k : BridgeLane) (on : ℕ) (p : OpId) → Run board h → presents board on p (world_of board h k).standing ≡ true → OfBridge k
  presents_bridge h k on p run presented =
      let P : Option Bridge → Type 0 = λ found. bridge_to board k.bus ≡ found → OfBridge k in
      (elim (bridge_to board k.bus) as P [
        | None ↦ λ none.
            let empty : world_of board h k ≡ empty_lane = Quiet-empty board h k (run_no_bridge board k.bus h none run) in
            let F : LaneState → Type 0 = λ s. presents board on p s.standing ≡ true in
            let impossible : false ≡ true = subst F empty presented in
            cc
        | Some bridge ↦ λ some. record { bridge = bridge; is_bridge = some }
      ]) refl

  lane_leaves : (h : List Event) (on : ℕ) (k : BridgeLane) (p : OpId) (step : Step) (place : Place) → Run board h → wants board h on (ByLane k) p ≡ true → answer board h on (ByLane k) p ≡ Gives step place
      → over_lanes (λ l. total (one_of o) (leaves_by board l (ByLane k) p step)) board ≡ ends_bits (ByLane k) step (same_op p o)
  lane_leaves h on k p step place run wanted gives =
      let st : List Carried = (world_of board h k).standing in
      let presented : presents board on p st ≡ true = (and_parts (end_of board k == on) (presents board on p st) wanted).1 in
      let of_bridge = presents_bridge h k on p run presented in
      let ends : Bool = is_some (lane_outcome board k p step) in
      let n : ℕ = cond (is_posted_op board p) (cond ends (bit (same_op p o)) 0) 0 in
      let P : Bool → Type 0 = λ b. same_op p o ≡ b → cond (is_posted_op board p) (cond ends (bit b) 0) 0 ≡ ends_bits (ByLane k) step b in
      over-same (λ l. total (one_of o) (leaves_by board l (ByLane k) p step)) (λ l. cond (same_lane k l) n 0) board (λ l. gone_one p (same_lane k l) (is_posted_op board p) ends)
      ∙ over-one board k n of_bridge.bridge distinct of_bridge.is_bridge
      ∙ (elim (same_op p o) as P [
        | true ↦ λ same.
            let one : p ≡ o = same_op_true p o same in
            let write : is_posted_op board p ≡ true = subst (λ q. is_posted_op board q ≡ true) (sym one) posted in
            rw write (step_bits k p step place (posted_at board h on (ByLane k) o p step place posted same gives))
        | false ↦ λ _. none_zero (is_posted_op board p) (cond ends (bit false) 0) (none_zero ends (bit false) refl) ∙ sym (other_bits k step)
      ]) refl

  abbrev Leaving : Event → Type 0
  Leaving e = over_lanes (λ l. total (one_of o) (leaving board l e)) board ≡ bit (accepts_from_lane o e) + bit (lands_from_lane o e) + bit (lost_from_lane o e)

  event_leaves : (h : List Event) (e : Event) → Run board h → Allowed board h e → Leaving e
  event_leaves h (Act on Master p step place) run allowed = over-zero (λ l. 0) board (λ l. refl)
  event_leaves h (Act on (ByLane k) p step place) run allowed = lane_leaves h on k p step place run allowed.0 allowed.1
  event_leaves h (Arrive lane mark) run allowed = over-zero (λ l. 0) board (λ l. refl)

  left_sum : (h : List Event) → Run board h → over_lanes (λ l. total (one_of o) (left board l h)) board ≡ times (accepts_from_lane o) h + times (lands_from_lane o) h + times (lost_from_lane o) h
  left_sum [] run = over-zero (λ l. 0) board (λ l. refl)
  left_sum (e ∷ h) run =
      let both = over-plus (λ l. total (one_of o) (left board l h)) (λ l. total (one_of o) (leaving board l e)) (λ l. total (one_of o) (left board l (e ∷ h))) board
      (λ l. total-append (one_of o) (left board l h) (leaving board l e)) in
      omega (arith, both, left_sum h run.1, event_leaves h e run.1 run.0)

  -- what entered a lane left it or is on it
  lane_counts : (h : List Event) → Run board h → (l : BridgeLane) → total (one_of o) (entered l h) ≡ total (one_of o) (left board l h) + on_lane o (world_of board h l)
  lane_counts h run l =
      let gone : List OpId = left board l h in
      let st : List OpId = posts (world_of board h l).standing in
      let fl : List OpId = posts (world_of board h l).flight in
      omega (arith, ap (total (one_of o)) (InOrder-run board h run l), total-append (one_of o) (gone ++ st) fl, total-append (one_of o) gone st)

  pub somewhere_one : (h : List Event) → Run board h → on_lanes board h o + times (lands_from_lane o) h + times (lost_from_lane o) h ≡ times (accepts_from_master o) h
  somewhere_one h run =
      let both = over-plus (λ l. total (one_of o) (left board l h)) (λ l. on_lane o (world_of board h l)) (λ l. total (one_of o) (entered l h)) board (lane_counts h run) in
      omega (arith, both, entered_sum h run, left_sum h run)

-- a master ends it once, by Accept or by Land
step_ends : (o p : OpId) (step : Step) (on : ℕ) (place : Place)
    → bit (accepts_from_master o (Act on Master p step place)) + bit (lands_from_master o (Act on Master p step place)) ≤ bit (ends_at_master o (Act on Master p step place))
step_ends o p Land on place =
    let P : Bool → Type 0 = λ b. bit (true && false && b) + bit (true && true && b) ≤ bit (is_some (cond b (Some Written) None)) in
    elim (same_op p o) as P [ true ↦ omega arith | false ↦ omega arith ]
step_ends o p (Part phases) on place = omega arith
step_ends o p (Read value) on place = omega arith
step_ends o p Accept on place =
    let P : Bool → Type 0 = λ b. bit (true && true && b) + bit (true && false && b) ≤ bit (is_some (cond b (Some Written) None)) in
    elim (same_op p o) as P [ true ↦ omega arith | false ↦ omega arith ]
step_ends o p Latch on place = omega arith
step_ends o p (Take outcome) on place = omega arith
step_ends o p Stall on place = omega arith
step_ends o p MasterAbort on place = omega arith
step_ends o p TargetAbort on place = omega arith

event_ends : (o : OpId) (e : Event) → bit (accepts_from_master o e) + bit (lands_from_master o e) ≤ bit (ends_at_master o e)
event_ends o (Act on Master p step place) = step_ends o p step on place
event_ends o (Act on (ByLane lane) p step place) = omega arith
event_ends o (Arrive lane mark) = omega arith

times_ends : (o : OpId) (h : List Event) → times (accepts_from_master o) h + times (lands_from_master o) h ≤ times (ends_at_master o) h
times_ends o [] = omega arith
times_ends o (e ∷ h) = omega (arith, times_ends o h, event_ends o e)

pub OnePost-run : (board : Board) (h : List Event) (o : OpId) → DifferentNumbers board → is_posted_op board o ≡ true → Run board h → OnePost board h o
OnePost-run board h o distinct posted run =
    record { somewhere = somewhere_one board o distinct posted h run; once = omega (arith, times_ends o h, ends_once board h o run) }
