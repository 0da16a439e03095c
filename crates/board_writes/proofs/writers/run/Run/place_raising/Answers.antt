use Rattle.std.proofs.Common.{◌+◌, drop, refl, sym, ap, ◌∙◌}
use Rattle.board_writes.specs.Polls.{raises_it}
use Rattle.board_writes.specs.Stretches.{from_first}
use Rattle.board_writes.proofs.ScanLemmas.{from_found}
use Rattle.board_writes.proofs.RaisingLemmas.{drop_twice}
use Rattle.board_writes.proofs.writers.run.Run.place_raising.Goals as goal

pub returns-clause-place : goal.returns-clause-place
returns-clause-place c =
    ap (drop (c.args.count + c.count_unmet.result)) (sym c.self.view_is)
    ∙ drop_twice c.args.count c.count_unmet.result c.self.inside.writes.items
    ∙ from_found c.args.awaited c.self.inside.writes.items (drop c.args.count c.self.inside.writes.items) (drop c.count_unmet.result (drop c.args.count c.self.inside.writes.items)) c.self.inside.values.items c.split_at.result.1.now c.args.count c.count_unmet.result c.self.invariant
    refl (c.split_at.ensures.back ∙ ap (drop c.args.count) c.as_slice.ensures.value) c.count_unmet.ensures.count refl
    ∙ ap (λ ws. from_first (raises_it c.args.awaited) (drop c.args.count ws)) c.self.view_is
