use Rattle.std.proofs.Common.{take, reverse, ap, ◌∙◌}
use Rattle.std.specs.List.{find}
use Rattle.board_writes.specs.Polls.{raises_it}
use Rattle.board_writes.proofs.ScanLemmas.{last_taken}
use Rattle.board_writes.proofs.writers.run.Run.last_raising.Goals as goal

pub returns : goal.returns
returns c =
    c.last.ensures.value
    ∙ last_taken c.args.awaited c.self.inside.writes.items c.split_at.result.0.now c.split_at-3.result.0.now c.self.inside.values.items c.split_at-2.result.0.now c.args.count c.count_to_last.result c.self.invariant
    (c.split_at.ensures.front ∙ ap (take c.args.count) c.as_slice.ensures.value) (c.split_at-2.ensures.front ∙ ap (take c.args.count) c.as_slice-2.ensures.value) c.count_to_last.ensures.count c.split_at-3.ensures.front
    ∙ ap (λ ws. find (raises_it c.args.awaited) (reverse (take c.args.count ws))) c.self.view_is
