use Rattle.std.proofs.Common.{rules, append_assoc}
use Rattle.std.proofs.lemmas.Result.{IfOk-equal}
use Rattle.board_printer.proofs.PartLemmas.{spaced_options}
use Rattle.board_printer.proofs.bridges.print_options.Goals as goal

pub returns : goal.returns
returns c = search (rules, IfOk-equal, append_assoc, spaced_options c.args.bridge.now)
