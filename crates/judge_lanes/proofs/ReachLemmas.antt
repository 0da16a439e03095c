-- How far the slots of an operation reach on its way, lane by lane.
use Rattle.std.proofs.Common.{◌≡◌, ◌≢◌, ℕ, zero, suc, ◌+◌, ◌-◌, ◌≤◌, Bool, cond, Some, None, refl, ap, ◌∙◌, arith}
use Rattle.std.specs.List.{list_any}
use Rattle.pci_command.specs.declared.op_id.OpId.{OpId}
use Rattle.board_model.specs.declared.board.Board.{Board}
use Rattle.board_model.specs.declared.bridge.Lane.{Lane as BridgeLane}
use Rattle.board_model.specs.declared.bridge.Place.{Place}
use Rattle.board_model.specs.declared.bridge.Place.TheVariants.{Lane}
use Rattle.board_model.specs.declared.op.Op.{Op}
use Rattle.board_model.specs.Claims.{claim}
use Rattle.board_model.specs.Requests.{request_on}
use Rattle.board_model.specs.Ways.{end_of, route_by, route_within}
use Rattle.history_model.specs.World.{World}
use Rattle.history_model.specs.Left.{Reach, is_slot_of, lane_or, reach_of}

abbrev pub none : Reach
none = record { lanes = 0; last = None }

abbrev pub through : BridgeLane → Reach → Reach
through lane rest = record { lanes = rest.lanes + 1; last = Some (lane_or rest.last lane) }

-- on at most so many lanes from a bus on
abbrev pub reach_on : World → OpId → Board → Op → ℕ → ℕ → Reach
reach_on world o board op most on = reach_of world o (route_within most board op on).lanes

-- where this place claims, and at most so many lanes follow
abbrev pub reach_by : World → OpId → Board → Op → ℕ → ℕ → Place → Reach
reach_by world o board op more on place = reach_of world o (route_by (λ lane. route_within more board op (end_of board lane)) on place).lanes

pub reach_nowhere : (world : World) (o : OpId) (board : Board) (op : Op) (most on : ℕ) → most ≡ 0 → reach_on world o board op most on ≡ none
reach_nowhere world o board op most on nowhere = ap (λ n. reach_on world o board op n on) nowhere

pub reach_at : (world : World) (o : OpId) (board : Board) (op : Op) (most on : ℕ) (place : Place) → most ≢ 0 → claim board on (request_on op on) ≡ place
    → reach_on world o board op most on ≡ reach_by world o board op (most - 1) on place
reach_at world o board op zero on place some claims = absurd (some refl)
reach_at world o board op (suc more) on place some claims =
    let same : more ≡ suc more - 1 = omega arith in
    ap (λ p. reach_by world o board op more on p) claims ∙ ap (λ n. reach_by world o board op n on place) same

pub reach_through : (world : World) (o : OpId) (board : Board) (op : Op) (most on : ℕ) (lane : BridgeLane) (held : Bool) → most ≢ 0 → claim board on (request_on op on) ≡ Lane lane
    → list_any (is_slot_of o) (world lane).held ≡ held
    → reach_on world o board op most on ≡ cond held (through lane (reach_on world o board op (most - 1) (end_of board lane))) none
reach_through world o board op most on lane held some claims is =
    reach_at world o board op most on (Lane lane) some claims ∙ ap (λ b. cond b (through lane (reach_on world o board op (most - 1) (end_of board lane))) none) is

-- it takes no more lanes than it may
pub short_none : (lanes most : ℕ) → lanes ≡ 0 → lanes ≤ most
short_none lanes most is = omega arith

pub short_through : (lanes behind most : ℕ) → most ≢ 0 → lanes ≡ behind + 1 → behind ≤ most - 1 → lanes ≤ most
short_through lanes behind most some is short = omega arith
