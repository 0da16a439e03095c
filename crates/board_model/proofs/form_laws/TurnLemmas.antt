-- A claim on the bus where a lane ends never turns back.
use Rattle.std.proofs.Common.{◌≡◌, ℕ, true, false, not, ◌≢◌, ap, ◌∙◌, ⊎_elim}
use Rattle.board_model.specs.declared.bridge.Lane.{Lane as BridgeLane}
use Rattle.board_model.specs.declared.bridge.Place.TheVariants.{Lane}
use Rattle.board_model.specs.declared.op.Op.{Op}
use Rattle.board_model.specs.declared.board.Board.{Board}
use Rattle.board_model.specs.Requests.{request_on}
use Rattle.board_model.specs.Claims.{claim}
use Rattle.board_model.specs.Ways.{primary_in, end_of, start_of, lane_back}
use Rattle.board_model.specs.WellFormed.{are_numbered_apart}
use Rattle.board_model.proofs.form_laws.StepLemmas.{stays, Up, Down, steps}
use Rattle.board_model.proofs.form_laws.WayLemmas.{end_down}

pub no_turn : (board : Board) (op : Op) (on : ℕ) (lane : BridgeLane) → are_numbered_apart board.bridges ≡ true → claim board on (request_on op on) ≡ Lane lane
    → claim board (end_of board lane) (request_on op (end_of board lane)) ≢ Lane (lane_back lane)
no_turn board op on lane apart first second =
    let at : ℕ = end_of board lane in
    let next = steps board op at (lane_back lane) apart second in
    ⊎_elim {C = ⊥}
    (λ (up : Up board op on lane).
    let bus : lane.bus ≡ on = ap (λ l. l.bus) up.is in
    let upwards : lane.up ≡ true = ap (λ l. l.up) up.is in
    let leaves : stays board op on ≡ false = up.leaves in
    ⊎_elim {C = ⊥}
    (λ (again : Up board op at (lane_back lane)). let back : not lane.up ≡ true = ap (λ l. l.up) again.is in cc)
    (λ (down : Down board op at (lane_back lane)). let inside : stays board op lane.bus ≡ true = down.inside in cc)
    next)
    (λ (down : Down board op on lane).
    let at_end : at ≡ lane.bus = end_down board op on lane down in
    let downwards : lane.up ≡ false = ap (λ l. l.up) down.is in
    let inside : stays board op lane.bus ≡ true = down.inside in
    ⊎_elim {C = ⊥}
    (λ (up : Up board op at (lane_back lane)). let leaves : stays board op at ≡ false = up.leaves in cc)
    (λ (again : Down board op at (lane_back lane)). let back : not lane.up ≡ false = ap (λ l. l.up) again.is in cc)
    next)
    (steps board op on lane apart first)

-- a lane claims on the bus where it starts
pub starts_here : (board : Board) (op : Op) (on : ℕ) (lane : BridgeLane) → are_numbered_apart board.bridges ≡ true → claim board on (request_on op on) ≡ Lane lane → start_of board lane ≡ on
starts_here board op on lane apart claims =
    ⊎_elim {C = start_of board lane ≡ on}
    (λ (up : Up board op on lane). ap (start_of board) up.is)
    (λ (down : Down board op on lane). ap (start_of board) down.is ∙ ap primary_in down.is_child ∙ down.parent)
    (steps board op on lane apart claims)
