use Rattle.std.proofs.Common.{refl, arith}
use Rattle.worked_runs.specs.Premises.{relay_history}
use Rattle.worked_runs.specs.Relay.{relay_board, first_write, last_read}
use Rattle.worked_runs.specs.left.Readings.{data_reading}
use Rattle.worked_runs.proofs.left.relay_left.Goals as goal

pub returns-clause-left : goal.returns-clause-left
returns-clause-left c =
    c.reads_return_what_was_left.ensures.left relay_board relay_history c.writes_are_told_one_way.ensures.valid c.relay.ensures.run first_write last_read data_reading c.relay.ensures.told refl (0, omega arith, refl)
