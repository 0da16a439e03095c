use Rattle.std.proofs.Common.{sym, arith, ◌<◌, length}
use Rattle.bus_agents.proofs.marks.MarkLemmas.{none_there}
use Rattle.bus_agents.proofs.marks.lane_marks.is_among.Goals as goal

pub returns-in-Err : goal.returns-in-Err
returns-in-Err c = sym (none_there c.args.numbers.now c.args.number (λ k within same. omega (arith, c.type_inv.numbers k, same, c.in-Err.ensures)))
