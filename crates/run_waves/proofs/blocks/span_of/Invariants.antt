use Rattle.run_waves.proofs.BlockLemmas.{SpansTo}
use Rattle.run_waves.proofs.blocks.span_of.Given as goal

-- those so far
abbrev pub invariant-loop-number : goal.invariant-loop-number
invariant-loop-number l = SpansTo l.board l.signals l.start l.number l.span
