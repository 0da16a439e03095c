use Rattle.std.proofs.Common.{subst, sym, List, Some, ◌∙◌}
use Rattle.history_model.specs.Lanes.{Both}
use Rattle.judge_state.specs.Rooms.{RoomAt}
use Rattle.judge_state.proofs.lanes.KeptLanes.happen_at.Goals as goal

pub happen_to-requires : goal.happen_to-requires
happen_to-requires c =
    let room = subst (RoomAt c.args.self.now) c.in-Some.is c.requires in
    subst (λ (lanes : List Both). RoomAt lanes (Some c.in-Some.place)) (sym (c.as_mut_slice.ensures.value ∙ c.self.view_is)) room
