use Rattle.std.proofs.Common.{◌≡◌, drop}
use Rattle.std.specs.List.{position_or_len}
use Rattle.board_text.specs.Lines.{is_newline}
use Rattle.board_text.proofs.CutLemmas.{next_step}
use Rattle.board_text.proofs.reader.next_line.Goals as goal

pub returns-clause-line : goal.returns-clause-line
returns-clause-line c =
    let size : c.length_of_line-size.result ≡ position_or_len is_newline (drop c.args.at c.args.bytes.now) = rw (← c.split_at.ensures.back) c.length_of_line-size.ensures.value in
    rw (c.split_at-2.ensures.front, c.split_at.ensures.back) (next_step c.args.bytes.now c.args.at c.length_of_line-size.result c.if-at-bytes.false size)
