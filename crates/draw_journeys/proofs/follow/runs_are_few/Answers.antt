use Rattle.std.proofs.Common.{arith}
use Rattle.std.proofs.lemmas.Bool.{ltb-false}
use Rattle.std.proofs.lemmas.List.{length-reverse}
use Rattle.board_model.specs.Ways.{bound_of}
use Rattle.history_model.specs.Runs.{history_of}
use Rattle.draw_journeys.proofs.follow.runs_are_few.Goals as goal

pub returns : goal.returns
returns c =
    let tree = c.args.tree.now in
    let events = c.args.events.now in
    let valid = c.board-valid.ensures.valid in
    omega (arith, length-reverse events, c.runs_end.ensures.bounded tree (history_of events) valid c.requires, ltb-false 500000 (bound_of tree) valid.bound)
