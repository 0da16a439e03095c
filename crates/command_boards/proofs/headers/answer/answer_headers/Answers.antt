use Rattle.std.proofs.Common.{ap, ◌∙◌}
use Rattle.board_model.specs.declared.board.Board.{Board}
use Rattle.board_printer.specs.headers.Headers.{headers_text}
use Rattle.program_input.specs.Boards.{ReadsBoard}
use Rattle.command_boards.proofs.headers.ReadBackLemmas.{headers_read_back}
use Rattle.command_boards.proofs.headers.answer.answer_headers.Goals as goal

pub returns-in-Ok-clause-ok : goal.returns-in-Ok-clause-ok
returns-in-Ok-clause-ok c =
    let board : Board = c.in_ok-tree.tree in
    let reads : ReadsBoard c.args.input.now board = c.in_ok-tree.ensures.ok in
    record {
      board = board;
      reads = reads;
      written = c.into_vec.ensures ∙ (c.in-Ok.ensures ∙ ap (λ (b : Board). headers_text b) c.board.ensures.value);
      read_back = headers_read_back board reads.valid c.encoding_is_read_back.ensures.whole_windows c.encoding_is_read_back.ensures.reading;
    }
