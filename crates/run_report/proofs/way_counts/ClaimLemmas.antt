-- What an operation counts from a bus on, by who claims it there.
use Rattle.std.proofs.Common.{◌≡◌, ℕ, ◌+◌, Bool, false, ap, ◌∙◌, arith}
use Rattle.list_facts.specs.Lists.{total}
use Rattle.board_model.specs.declared.bridge.Lane.{Lane as BridgeLane}
use Rattle.board_model.specs.declared.bridge.Place.{Place}
use Rattle.board_model.specs.declared.bridge.Place.TheVariants.{Target, Header, Lane, Nobody}
use Rattle.board_model.specs.declared.op.Op.{Op}
use Rattle.board_model.specs.declared.board.Board.{Board}
use Rattle.board_model.specs.Requests.{request_on, is_posted}
use Rattle.board_model.specs.Claims.{claim}
use Rattle.board_model.specs.Ways.{Route, route_by, route_of, end_of, is_lane}
use Rattle.board_model.specs.form_laws.Trees.{IsTree}
use Rattle.board_model.proofs.form_laws.Laws.{WayEnds-tree}
use Rattle.run_report.specs.way_counts.WayCounts.{Weight, lane_weight, last_kind, way_weight}

-- a way is that of whom the request is claimed by
route_is : (board : Board) (op : Op) (on : ℕ) (place : Place) → IsTree board → claim board on (request_on op on) ≡ place → route_of board op on ≡ route_by (λ lane. route_of board op (end_of board lane)) on place
route_is board op on place tree claims =
    let ends = WayEnds-tree board op tree on in
    ends.onwards ∙ ap (route_by (λ lane. route_of board op (end_of board lane)) on) claims

-- the weight of a route
abbrev route_weight : Board → Weight → Op → Bool → Route → ℕ
route_weight board weight op posted route = total (lane_weight board weight posted) route.lanes + weight route.bus (last_kind board (request_on op route.bus) route.owner)

-- where a lane claims it, it goes over that lane, and on from its end
pub over_lane : (board : Board) (weight : Weight) (op : Op) (on : ℕ) (lane : BridgeLane) → IsTree board → claim board on (request_on op on) ≡ Lane lane
    → way_weight board weight on op ≡ lane_weight board weight (is_posted (request_on op on)) lane + way_weight board weight (end_of board lane) op
over_lane board weight op on lane tree claims =
    ap (route_weight board weight op (is_posted (request_on op on))) (route_is board op on (Lane lane) tree claims) ∙ omega arith

-- where none does, its way ends with one step
pub at_end : (board : Board) (weight : Weight) (op : Op) (on : ℕ) (place : Place) → IsTree board → claim board on (request_on op on) ≡ place → is_lane place ≡ false
    → way_weight board weight on op ≡ weight on (last_kind board (request_on op on) place)
at_end board weight op on (Target target) tree claims none = ap (route_weight board weight op (is_posted (request_on op on))) (route_is board op on (Target target) tree claims) ∙ omega arith
at_end board weight op on (Header bus) tree claims none = ap (route_weight board weight op (is_posted (request_on op on))) (route_is board op on (Header bus) tree claims) ∙ omega arith
at_end board weight op on (Lane lane) tree claims none = cc
at_end board weight op on Nobody tree claims none = ap (route_weight board weight op (is_posted (request_on op on))) (route_is board op on Nobody tree claims) ∙ omega arith
