use Rattle.std.proofs.Common.{◌≡◌, ◌-◌, ◌++◌}
use Rattle.traffic_generator.specs.Generated.{program, program_drawn}
use Rattle.traffic_generator.proofs.programs.program.Given as goal

-- the rounds so far and those that are still to be drawn make up the whole
abbrev pub invariant-loop-round : goal.invariant-loop-round
invariant-loop-round l = record {
  value : l.ops.items ++ program l.aims.first l.aims.second (l.rounds - l._round) l.draws.state ≡ program l.fn.aims.first l.fn.aims.second l.rounds l.fn.draws.state;
  state : program_drawn (l.rounds - l._round) l.draws.state ≡ program_drawn l.rounds l.fn.draws.state;
}
