use Rattle.program_tests.proofs.SureLemmas.{never_rose, answered_or_no_memory}
use Rattle.program_tests.proofs.surely.pcitree_surely.Goals as goal

pub returns-clause-reads : goal.returns-clause-reads
returns-clause-reads g c = λ is. never_rose (c.pcitree.ensures.read_fault is)

pub returns-clause-writes : goal.returns-clause-writes
returns-clause-writes g c = λ is. never_rose (c.pcitree.ensures.write_fault is)

pub returns-clause-cause : goal.returns-clause-cause
returns-clause-cause g c = λ form input is told. c.pcitree.ensures.cause form input is told

pub returns-clause-served : goal.returns-clause-served
returns-clause-served g c = λ form input is told served.
    answered_or_no_memory form _ input _ (λ e. never_rose (c.pcitree.ensures.read_fault e)) (λ e. never_rose (c.pcitree.ensures.write_fault e)) (c.pcitree.ensures.served form input is told served) (c.pcitree.ensures.cause form input is told)
