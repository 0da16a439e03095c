use Rattle.std.proofs.Common.{◌+◌, arith}
use Rattle.board_model.specs.Ways.{cost_of}
use Rattle.judge_lanes.proofs.SumLemmas.{total_drop}
use Rattle.judge_lanes.proofs.remaining.behind_left.Goals as goal

pub cost_of_program-requires-clause-fits : goal.cost_of_program-requires-clause-fits
cost_of_program-requires-clause-fits c =
    let behind = total_drop (cost_of c.args.board.now c.args.bus) (c.args.index + 1) c.args.ops.now in
    rw c.split_at.ensures.back (omega (arith, behind, c.requires.short))

pub returns-then-next-ops-clause-fits : goal.returns-then-next-ops-clause-fits
returns-then-next-ops-clause-fits c =
    let behind = total_drop (cost_of c.args.board.now c.args.bus) (c.args.index + 1) c.args.ops.now in
    let costs = rw c.split_at.ensures.back at c.cost_of_program.ensures in
    omega (arith, behind, costs, c.requires.short)
