use Rattle.std.proofs.Common.{arith}
use Rattle.dma_agents.proofs.WrittenLemmas.{phase_more, phases_done}
use Rattle.dma_agents.proofs.written.note_phases.Goals as goal

pub loop-place-preserved : goal.loop-place-preserved
loop-place-preserved c =
    phase_more c.args.first c.args.alone c.args.phases.now c.loop-place.place (record { value = 0; enables = 0 }) c.args.written.now c.loop-place.written c.note_phase.new.written
    (omega arith) c.loop-place.invariant c.in_ok-note_phase.ensures

pub returns : goal.returns
returns c = phases_done c.args.first c.args.alone c.args.phases.now c.loop-place.place c.args.written.now c.loop-place.written (omega arith) c.loop-place.invariant
