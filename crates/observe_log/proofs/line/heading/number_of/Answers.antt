use Rattle.std.proofs.Common.{sym, arith}
use Rattle.board_text.specs.Numbers.{number_fault}
use Rattle.observe_log.proofs.QuickLemmas.{bus_number, bus_fault}
use Rattle.observe_log.proofs.line.heading.number_of.Goals as goal

pub returns-in-Ok : goal.returns-in-Ok
returns-in-Ok c = bus_number c.args.word.now c.in-Ok.number (sym c.in-Ok.ensures) (omega arith)

pub returns-in-Err : goal.returns-in-Err
returns-in-Err c = (number_fault c.in-Err._fault, bus_fault c.args.word.now c.in-Err._fault (sym c.in-Err.ensures))
