use Rattle.std.proofs.Common.{string_bytes}
use Rattle.draw_page.proofs.PageLemmas.{is_page}
use Rattle.draw_page.proofs.page.print_rows.Goals as goal

pub returns : goal.returns
returns c = λ items captions.
    is_page c.args.canvas.now.board.now c.args.canvas.now.frame.now c.args.elements.now items (string_bytes c.args.text.now) (string_bytes c.print_strips.new.text) (string_bytes c.push_str.new.self) captions
    c.in_ok-print_strips.ensures c.in_ok-push_str.ensures.bytes
