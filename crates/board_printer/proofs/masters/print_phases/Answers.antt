use Rattle.board_printer.specs.Numbers.{phase_text}
use Rattle.board_printer.proofs.LineLemmas.{spaced-more}
use Rattle.board_printer.proofs.masters.print_phases.Goals as goal

pub loop-phase-preserved : goal.loop-phase-preserved
loop-phase-preserved c =
    spaced-more phase_text _ _ _ c.args.phases.now c.loop-phase.phase-index _ c.loop-phase-test.true c.loop-phase.invariant c.in_ok-print_phase.ensures
