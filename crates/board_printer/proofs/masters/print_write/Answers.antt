use Rattle.std.proofs.Common.{[], ◌∷◌, map, rules, append_assoc}
use Rattle.std.proofs.lemmas.Result.{IfOk-equal}
use Rattle.board_printer.specs.Numbers.{phase_text}
use Rattle.board_printer.proofs.LineLemmas.{spaced-rest}
use Rattle.board_printer.proofs.masters.print_write.Goals as goal

pub returns : goal.returns
returns c = search (rules, IfOk-equal, append_assoc, spaced-rest (map phase_text c.args.phases.now) (10 ∷ []))
