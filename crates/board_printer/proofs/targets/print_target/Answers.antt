use Rattle.std.proofs.Common.{rules, append_assoc}
use Rattle.std.proofs.lemmas.Result.{IfOk-equal}
use Rattle.board_printer.proofs.PartLemmas.{text_of_target}
use Rattle.board_printer.proofs.targets.print_target.Goals as goal

pub returns : goal.returns
returns c = search (rules, IfOk-equal, append_assoc, text_of_target c.args.target.now)
