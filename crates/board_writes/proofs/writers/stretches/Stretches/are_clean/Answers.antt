use Rattle.std.proofs.Common.{◌∙◌}
use Rattle.board_writes.specs.Stretches.{joined}
use Rattle.board_writes.proofs.CleanLemmas.{clean_if, clean_unless}
use Rattle.board_writes.proofs.writers.stretches.Stretches.are_clean.Goals as goal

pub returns-then-covers : goal.returns-then-covers
returns-then-covers c =
    clean_if c.args.awaited.now c.args.self.now (joined c.self.inside.runs.items) c.as_slice.result.now c.covers.result c.is_any_met.result c.self.view_is (c.covers.ensures (joined c.self.inside.runs.items) c.self.invariant.bits_are) (c.as_slice.ensures.value ∙ c.self.invariant.early_are) c.is_any_met.ensures c.if-covers.true

pub returns-else-covers : goal.returns-else-covers
returns-else-covers c =
    clean_unless c.args.awaited.now c.args.self.now (joined c.self.inside.runs.items) c.covers.result c.self.view_is (c.covers.ensures (joined c.self.inside.runs.items) c.self.invariant.bits_are) c.if-covers.false
