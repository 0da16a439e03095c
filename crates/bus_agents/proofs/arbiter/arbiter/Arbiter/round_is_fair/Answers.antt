use Rattle.std.proofs.Common.{subst, ◌<◌, ℕ}
use Rattle.board_model.specs.Limits.{request_lines}
use Rattle.bus_agents.proofs.arbiter.RoundLemmas.{each_once}
use Rattle.bus_agents.proofs.arbiter.arbiter.Arbiter.round_is_fair.Goals as goal

pub returns : goal.returns
returns c = each_once c.args.lines c.args.self.now c.ranges.lines.fits (subst (λ (line : ℕ). line < request_lines) c.self.view_is c.self.invariant)
