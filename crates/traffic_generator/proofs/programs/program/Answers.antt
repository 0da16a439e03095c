use Rattle.std.proofs.Common.{◌∙◌}
use Rattle.traffic_generator.proofs.LoopLemmas.{program_kept, program_drawn_kept, program_whole, program_drawn_whole}
use Rattle.traffic_generator.proofs.programs.program.Goals as goal

pub loop-round-preserved : goal.loop-round-preserved
loop-round-preserved c = record {
  value = program_kept _ _ _ _ _ _ _ _ _ c.loop-round-test.true c.in_ok-push_round.ensures.value c.in_ok-push_round.ensures.state c.loop-round.invariant.value;
  state = program_drawn_kept _ _ _ _ _ c.loop-round-test.true c.in_ok-push_round.ensures.state c.loop-round.invariant.state;
}

pub returns-clause-value : goal.returns-clause-value
returns-clause-value c = c.from_vec.ensures ∙ program_whole _ _ _ _ _ _ _ c.loop-round-test.false c.loop-round.invariant.value

pub returns-clause-state : goal.returns-clause-state
returns-clause-state c = program_drawn_whole _ _ _ _ c.loop-round-test.false c.loop-round.invariant.state
