use Rattle.std.proofs.Common.{rules, append_assoc, [], ◌∷◌, map}
use Rattle.std.proofs.lemmas.Result.{IfOk-equal}
use Rattle.board_printer.proofs.LineLemmas.{spaced-rest}
use Rattle.board_printer.specs.headers.Headers.{byte_text}
use Rattle.board_printer.proofs.headers.print_row.Goals as goal

pub returns : goal.returns
returns c = search (rules, IfOk-equal, append_assoc, spaced-rest (map byte_text c.args.bytes.now) (10 ∷ []))
