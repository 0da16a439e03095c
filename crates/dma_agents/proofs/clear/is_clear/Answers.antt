use Rattle.std.proofs.Common.{◌≡◌, ℕ, Bool, ◌&&◌, List, filter, sym, ap, ◌∙◌, arith}
use Rattle.board_model.specs.declared.agents.Target.{Target}
use Rattle.history_model.specs.Clear.{holds, opens_otherwise}
use Rattle.dma_agents.proofs.WrittenLemmas.{clear_by_weight}
use Rattle.dma_agents.proofs.clear.is_clear.Goals as goal

-- what was asked at this address, of these targets
opens_there : (address at value : ℕ) (targets asked : List Target) (opens : Bool) → opens ≡ opens_otherwise at value (filter (holds at) asked) → at ≡ address → asked ≡ targets
    → opens ≡ opens_otherwise address value (filter (holds address) targets)
opens_there address at value targets asked opens is there these =
    is ∙ ap (λ n. opens_otherwise n value (filter (holds n) asked)) there ∙ ap (λ (ts : List Target). opens_otherwise address value (filter (holds address) ts)) these

pub returns-then-opens : goal.returns-then-opens
returns-then-opens c =
    ap (λ (opens : Bool). opens && c.is_rung_once-rung.result) (sym c.if-opens.true)
    ∙ clear_by_weight c.args.address c.args.value c.args.board.now c.args.written.now c.opens_otherwise-opens.result c.is_rung_once-rung.result (omega (arith, c.ranges.address)) c.requires
    (opens_there c.args.address c.from.result c.args.value c.args.board.now.targets c.as_slice.result.now c.opens_otherwise-opens.result c.opens_otherwise-opens.ensures c.from.ensures c.as_slice.ensures) c.is_rung_once-rung.ensures

pub returns-else-opens : goal.returns-else-opens
returns-else-opens c =
    c.if-opens.false
    ∙ ap (λ (opens : Bool). opens && c.is_rung_once-rung.result) (sym c.if-opens.false)
    ∙ clear_by_weight c.args.address c.args.value c.args.board.now c.args.written.now c.opens_otherwise-opens.result c.is_rung_once-rung.result (omega (arith, c.ranges.address)) c.requires
    (opens_there c.args.address c.from.result c.args.value c.args.board.now.targets c.as_slice.result.now c.opens_otherwise-opens.result c.opens_otherwise-opens.ensures c.from.ensures c.as_slice.ensures) c.is_rung_once-rung.ensures
