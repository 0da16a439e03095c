use Rattle.std.proofs.Common.{subst, arith}
use Rattle.board_writes.specs.Stretches.{PartsAt}
use Rattle.board_writes.proofs.StretchLemmas.{run_parts, no_parts}
use Rattle.board_writes.proofs.polls.stays.count_before.Goals as goal

pub returns-in-len1-up-clause-parts : goal.returns-in-len1-up-clause-parts
returns-in-len1-up-clause-parts c =
    run_parts c.args.table.now c.args.poll c.args.run.now _ c.count_below.result (omega (arith, c.in-len1-up.len_at_least)) c.requires
    (subst (λ n. PartsAt n c.args.run.now c.count_below.result) c.look.ensures c.count_below.ensures.parts)

pub returns-in-empty-clause-parts : goal.returns-in-empty-clause-parts
returns-in-empty-clause-parts c = no_parts c.args.table.now c.args.poll c.args.run.now (omega arith)
