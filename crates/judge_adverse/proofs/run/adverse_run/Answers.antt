use Rattle.std.proofs.Common.{[]}
use Rattle.judge_adverse.proofs.run.adverse_run.Goals as goal

pub to_the_end-requires-clause-idle : goal.to_the_end-requires-clause-idle
to_the_end-requires-clause-idle c = c.in_ok-ring.ensures.idle []
