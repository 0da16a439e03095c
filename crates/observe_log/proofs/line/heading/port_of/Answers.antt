use Rattle.std.proofs.Common.{sym}
use Rattle.board_text.specs.Numbers.{number_fault}
use Rattle.observe_log.proofs.QuickLemmas.{hex_number, hex_fault}
use Rattle.observe_log.proofs.line.heading.port_of.Goals as goal

pub returns-in-Ok : goal.returns-in-Ok
returns-in-Ok c = hex_number c.args.word.now c.in-Ok.number (sym c.in-Ok.ensures)

pub returns-in-Err : goal.returns-in-Err
returns-in-Err c = (number_fault c.in-Err._fault, hex_fault c.args.word.now c.in-Err._fault (sym c.in-Err.ensures))
