use Rattle.board_writes.proofs.StretchLemmas.{made_summed}
use Rattle.board_writes.proofs.writers.stretches.stretches_of.Goals as goal

pub invariant_of-result : goal.invariant_of-result
invariant_of-result c = made_summed c.args.writes.now c.push_all.new.runs.items c.in_ok-early.early.items c.shared_bits.result c.in_ok-push_all.ensures c.in_ok-early.ensures c.shared_bits.ensures
