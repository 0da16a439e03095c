use Rattle.std.proofs.Common.{drop, ap, ◌∙◌}
use Rattle.board_writes.specs.Polls.{raises_it}
use Rattle.board_writes.specs.Stretches.{from_first}
use Rattle.board_writes.proofs.ScanLemmas.{from_found}
use Rattle.board_writes.proofs.writers.run.Run.from_raising.Goals as goal

pub returns : goal.returns
returns c =
    from_found c.args.awaited c.self.inside.writes.items c.split_at.result.1.now c.split_at-3.result.1.now c.self.inside.values.items c.split_at-2.result.1.now c.args.count c.count_unmet.result c.self.invariant
    (c.split_at.ensures.back ∙ ap (drop c.args.count) c.as_slice.ensures.value) (c.split_at-2.ensures.back ∙ ap (drop c.args.count) c.as_slice-2.ensures.value) c.count_unmet.ensures.count c.split_at-3.ensures.back
    ∙ ap (λ ws. from_first (raises_it c.args.awaited) (drop c.args.count ws)) c.self.view_is
