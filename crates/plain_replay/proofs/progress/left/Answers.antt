use Rattle.history_model.specs.Runs.{history_of}
use Rattle.judge_lanes.proofs.RunningLemmas.{IsRunning-valid}
use Rattle.plain_replay.proofs.progress.left.Goals as goal

pub left_on-requires : goal.left_on-requires
left_on-requires c =
    rw c.board.ensures.value (IsRunning-valid c.args.tree.now (history_of c.args.events.now) c.board.ensures.valid c.requires)
