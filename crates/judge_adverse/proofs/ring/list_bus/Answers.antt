use Rattle.judge_adverse.proofs.RingLemmas.{on_err, with_lines}
use Rattle.judge_adverse.proofs.ring.list_bus.Goals as goal

pub returns-in_err-lines : goal.returns-in_err-lines
returns-in_err-lines c = on_err c.from_residual.result _ c.from_residual.ensures.0

pub returns : goal.returns
returns c = with_lines c.list_lines.result c.args.all.now.items c.list_lines.new.all.items c.args.bus _ _ c.in_ok-lines.ensures c.list_lines.ensures
