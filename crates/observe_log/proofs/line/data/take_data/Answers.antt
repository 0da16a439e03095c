use Rattle.observe_log.proofs.QuickLemmas.{no_ending, phase_number}
use Rattle.observe_log.proofs.line.data.take_data.Goals as goal

-- eight digits are no RESULT, and have no `/` between them
pub returns-in-Some : goal.returns-in-Some
returns-in-Some c =
    let taken = c.in-Some.ensures.taken in
    (taken.0, taken.1, (no_ending taken.0 taken.2, phase_number taken.0 c.in-Some.value taken.2 taken.3))
