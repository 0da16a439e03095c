use Rattle.safe_model.specs.Clocks.{at_place}
use Rattle.worked_runs.specs.Flags.{flag_board}
use Rattle.worked_runs.specs.Safe.{flag_table}
use Rattle.worked_runs.proofs.SafeLemmas.{flag_valid, flag_consistent, flag_safe}
use Rattle.worked_runs.proofs.safe.data_behind_a_flag.Goals as goal

pub returns-clause-valid : goal.returns-clause-valid
returns-clause-valid c = flag_valid

pub returns-clause-consistent : goal.returns-clause-consistent
returns-clause-consistent c = flag_consistent

pub returns-clause-safe : goal.returns-clause-safe
returns-clause-safe c = flag_safe

pub returns-clause-returned : goal.returns-clause-returned
returns-clause-returned c = λ h run ended. c.safe_reads_return.ensures flag_board flag_table h (at_place 1 1) 7 flag_valid flag_consistent flag_safe run ended
