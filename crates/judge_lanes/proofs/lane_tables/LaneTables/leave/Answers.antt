use Rattle.std.proofs.Common.{◌≡◌, Some, sym, ◌∙◌, ap}
use Rattle.std.specs.List.{position}
use Rattle.history_model.specs.Lanes.{LaneState, is_of}
use Rattle.machine_steps.proofs.LeaveLemmas.{finds_first}
use Rattle.judge_lanes.proofs.lane_tables.LaneTables.leave.Goals as goal

pub returns-clause-item : goal.returns-clause-item
returns-clause-item c =
    let inside = c.self.inside.standing.items in
    let at : position (is_of c.args.op) inside ≡ Some c.in_ok-place.place = rw c.as_slice.ensures.value at (sym c.place_of_request.ensures ∙ c.in_ok-place.was) in
    let found = finds_first (is_of c.args.op) inside c.in_ok-place.place c.remove.result at in
    let standing : inside ≡ c.args.self.now.standing = ap (λ (lane : LaneState). lane.standing) c.self.view_is in
    let value = c.remove.ensures.value in
    rw (← standing) (cc)
