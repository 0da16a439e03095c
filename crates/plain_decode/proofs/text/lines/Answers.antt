use Rattle.std.proofs.Common.{◌≡◌, arith}
use Rattle.std.proofs.lemmas.Grind.{common_steps}
use Rattle.board_text.specs.Lines.{lines_of}
use Rattle.plain_decode.specs.Text.{token_lines}
use Rattle.plain_decode.proofs.TextLemmas.{lines_have_words}
use Rattle.plain_decode.proofs.text.lines.Goals as goal

pub returns-clause-words : goal.returns-clause-words
returns-clause-words c =
    let read : c.from_vec.result ≡ token_lines 1 0 (lines_of c.args.bytes.now) = grind (arith, common_steps) in
    rw read (lines_have_words c.args.bytes.now)
