use Rattle.std.proofs.lemmas.Option.{slice_get-get_or}
use Rattle.judge_state.proofs.lanes.happen_to.Goals as goal

pub happen-requires : goal.happen-requires
happen-requires c = c.requires _ (slice_get-get_or c.args.lanes.now c.args.place c.index-lanes-place.result c.if-place-lanes.true)
