-- Where nothing is in flight and a posted write stands, one of them can be presented and ends: the furthest on its way
-- finds room.
use Rattle.std.proofs.Common.{◌≡◌, ℕ, zero, suc, ◌<◌, ◌≤◌, Bool, true, false, ◌||◌, ◌&&◌, ◌==◌, eqb, List, [], ◌∷◌, Some, refl, sym, ap, subst, ◌∙◌, ◌⊎◌, inl, inr, ⊎_elim, arith}
use Rattle.std.specs.List.{list_any, AllByRecursion}
use Rattle.std.proofs.lemmas.Bool.Decides.{nat_tests}
use Rattle.list_facts.specs.Lists.{total}
use Rattle.pci_command.specs.declared.request.Request.{Request}
use Rattle.pci_command.specs.declared.op_id.OpId.{OpId}
use Rattle.board_model.specs.declared.bridge.Lane.{Lane as BridgeLane}
use Rattle.board_model.specs.declared.bridge.Place.{Place}
use Rattle.board_model.specs.declared.bridge.Place.TheVariants.{Target, Header, Lane, Nobody}
use Rattle.board_model.specs.declared.board.Board.{Board}
use Rattle.board_model.specs.declared.op.Op.{Op}
use Rattle.board_model.specs.Requests.{request_on, request_of, is_posted}
use Rattle.board_model.specs.Claims.{claim}
use Rattle.board_model.specs.Ways.{end_of, Route, route_by, route_within, lane_back}
use Rattle.board_model.specs.form_laws.WayEnds.{rank}
use Rattle.board_model.proofs.form_laws.Laws.{rank-falls}
use Rattle.history_model.specs.declared.event.By.TheVariants.{Lane as ByLane}
use Rattle.history_model.specs.declared.event.Event.{Event}
use Rattle.history_model.specs.World.{same_lane, both, world_of}
use Rattle.history_model.specs.Words.{through, without}
use Rattle.history_model.specs.Answers.{presents, wants}
use Rattle.history_model.specs.Runs.{Run}
use Rattle.law_lanes.specs.Credits.{post_count, room_count, Credits}
use Rattle.history_model.proofs.facts.BridgeLemmas.{same_lane_true}
use Rattle.law_lanes.proofs.Laws.{Credits-run, RightKind-run, CanStand-run}
use Rattle.law_lanes.specs.order.Order.{posts, is_posted_op}
use Rattle.law_lanes.specs.order.OnWay.{OnWay}
use Rattle.law_lanes.proofs.order.Laws.{rest_claimed, standing_owned, OnWay-stands, op_is_posted}
use Rattle.law_lanes.specs.order.Masters.{MastersWrite}
use Rattle.law_lanes.specs.progress.Next.{Next}
use Rattle.law_lanes.proofs.progress.SoundLemmas.{Sound, room_at}
use Rattle.law_lanes.proofs.progress.PresentLemmas.{post_presented}
use Rattle.law_lanes.proofs.progress.RefusedLemmas.{full, no_slot, waits, Refused, presented}
use Rattle.law_lanes.proofs.progress.StandLemmas.{SomePost, some_post, post_or_none}

-- a lane that claims the operation on some bus
pub record ClaimsIt (board : Board) (op : Op) (lane : BridgeLane) : Type 0 where
  pub bus : ℕ
  pub claims : claim board bus (request_on op bus) ≡ Lane lane

-- a lane of a way claims
claims_by : (board : Board) (op : Op) (lane : BridgeLane) (onwards : BridgeLane → Route) (on : ℕ) (place : Place) → claim board on (request_on op on) ≡ place
    → ((l : BridgeLane) → list_any (same_lane lane) (onwards l).lanes ≡ true → ClaimsIt board op lane)
    → list_any (same_lane lane) (route_by onwards on place).lanes ≡ true → ClaimsIt board op lane
claims_by board op lane onwards on (Target target) claims later is = cc
claims_by board op lane onwards on (Header bus) claims later is = cc
claims_by board op lane onwards on (Lane l) claims later is =
    let P : Bool → Type 0 = λ b. same_lane lane l ≡ b → (b || list_any (same_lane lane) (onwards l).lanes) ≡ true → ClaimsIt board op lane in
    (elim (same_lane lane l) as P [
      | true ↦ λ same _. record { bus = on; claims = claims ∙ ap Lane (sym (same_lane_true lane l same)) }
      | false ↦ λ _ e. later l e
    ]) refl is
claims_by board op lane onwards on Nobody claims later is = cc

-- so does each of a way that follows so many claims
claims_within : (board : Board) (op : Op) (lane : BridgeLane) (n on : ℕ) → list_any (same_lane lane) (route_within n board op on).lanes ≡ true → ClaimsIt board op lane
claims_within board op lane zero on is = cc
claims_within board op lane (suc n) on is =
    claims_by board op lane (λ l. route_within n board op (end_of board l)) on (claim board on (request_on op on)) refl
    (λ l. claims_within board op lane n (end_of board l)) is

-- where each of two passes, both do
pub joined : (a b : Bool) → a ≡ true → b ≡ true → (a && b) ≡ true
joined a b here there = rw (here, there) refl

-- what a lane presents it presents on the bus where it ends
pub lane_wants : (board : Board) (h : List Event) (lane : BridgeLane) (o : OpId) → presents board (end_of board lane) o (world_of board h lane).standing ≡ true → wants board h (end_of board lane) (ByLane lane) o ≡ true
lane_wants board h lane o shown =
    let on : ℕ = end_of board lane in
    let self : eqb on on ≡ true = grind (arith, nat_tests) in
    joined (on == on) (presents board on o (world_of board h lane).standing) self shown

module _ (board : Board) (h : List Event) (run : Run board h) (sound : Sound board) (still : (lane : BridgeLane) → (world_of board h lane).flight ≡ []) where
  -- where nothing is in flight, a lane that owes posted writes has one standing
  owed_stands : (lane : BridgeLane) → 1 ≤ (world_of board h lane).owed → SomePost (world_of board h lane).standing
  owed_stands lane some =
      let credits : Credits (both (world_of board h) lane) = Credits-run board h lane run in
      let here : total post_count (world_of board h lane).flight ≡ 0 = ap (total post_count) (still lane) in
      let back : total room_count (world_of board h (lane_back lane)).flight ≡ 0 = ap (total room_count) (still (lane_back lane)) in
      some_post (world_of board h lane).standing (omega (arith, credits.owed, here, back))

  -- a posted write on a lane, which its way takes on
  record Stands (lane : BridgeLane) (o : OpId) : Type 0 where
    way : OnWay board lane o
    posted : is_posted_op board o ≡ true

  -- as the oldest of a lane is
  oldest_stands : (lane : BridgeLane) (o : OpId) (later : List OpId) → posts (world_of board h lane).standing ≡ o ∷ later → Stands lane o
  oldest_stands lane o later is =
      let ways = subst (AllByRecursion (OnWay board lane)) is (OnWay-stands board sound.tree sound.one h lane run) in
      let writes = subst (AllByRecursion (MastersWrite board h)) is (standing_owned board h lane run) in
      record { way = ways.0; posted = writes.0.is_write }

  -- the lane that claims it further on has a lower rank
  further_on : (lane next : BridgeLane) (o : OpId) (request : Request) → Stands lane o → request_of board o (end_of board lane) ≡ Some request
      → claim board (end_of board lane) (without (through h o) request) ≡ Lane next → rank board next < rank board lane
  further_on lane next o request stands is_request claims =
      let op : Op = stands.way.op in
      let on : ℕ = end_of board lane in
      let requested : request_of board o on ≡ Some (request_on op on) = rw (stands.way.is_op) refl in
      let same : request ≡ request_on op on = cc in
      let claims_rest : claim board on (without (through h o) (request_on op on)) ≡ Lane next = subst (λ r. claim board on (without (through h o) r) ≡ Lane next) same claims in
      let second : claim board on (request_on op on) ≡ Lane next = sym (rest_claimed board h o op on sound.one stands.way.is_op stands.posted run) ∙ claims_rest in
      let begins : ClaimsIt board op lane = claims_within board op lane _ stands.way.master.bus stands.way.on_way in
      rank-falls board op begins.bus lane next sound.tree (record { first = begins.claims; second = second })

  -- the oldest posted write of a lane has an event, or one of a lane further on has
  post_goes_on : (n : ℕ) (lane : BridgeLane) (o : OpId) (later : List OpId) → rank board lane < n → posts (world_of board h lane).standing ≡ o ∷ later → Next board h
  post_goes_on zero lane o later below is = absurd (omega arith)
  post_goes_on (suc n) lane o later below is =
      let on : ℕ = end_of board lane in
      let stands = oldest_stands lane o later is in
      let shown : presents board on o (world_of board h lane).standing ≡ true =
      post_presented board on o later (world_of board h lane).standing stands.posted (RightKind-run board h lane run).1 (CanStand-run board h lane run) is in
      ⊎_elim {C = Next board h}
      (λ next. next)
      (λ (refused : Refused board h on (ByLane lane) o).
      let falls = further_on lane refused.lane o refused.request stands refused.is_request refused.claims in
      let room = room_at board refused.lane.bus refused.bridge sound refused.is_bridge in
      let other : is_posted refused.request ≡ false → Next board h =
      λ delayed. let not_posted = op_is_posted board on o refused.request false refused.is_request delayed in let posted = stands.posted in cc in
      elim refused.why as (λ _. Next board h) [
        | full _ deep ↦ let ahead = owed_stands refused.lane (omega (arith, room.0, deep)) in post_goes_on n refused.lane ahead.op ahead.later (omega (arith, falls, below)) ahead.is
        | no_slot delayed _ _ ↦ other delayed
        | waits delayed _ _ _ _ ↦ other delayed
      ])
      (presented board h on (ByLane lane) o (lane_wants board h lane o shown))

  -- a posted write that stands on a lane makes a next event, or none stands there
  pub post_next : (lane : BridgeLane) → Next board h ⊎ (posts (world_of board h lane).standing ≡ [])
  post_next lane =
      ⊎_elim {C = Next board h ⊎ (posts (world_of board h lane).standing ≡ [])}
      (λ (some : SomePost (world_of board h lane).standing). inl (post_goes_on (suc (rank board lane)) lane some.op some.later (omega arith) some.is))
      (λ (none : posts (world_of board h lane).standing ≡ []). inr none)
      (post_or_none (world_of board h lane).standing)
