use Rattle.std.proofs.Common.{◌≡◌, ◌∷◌, false, Ok, Err, drop, ap, sym, subst, ◌∙◌, arith}
use Rattle.board_model.specs.declared.board.Board.{Board}
use Rattle.board_text.specs.Lines.{lines_of}
use Rattle.observe_log.specs.Logs.{is_last, words_line, lines_read}
use Rattle.observe_log.specs.Reading.{AddsAll}
use Rattle.observe_log.proofs.LineLemmas.{not_last, line_more, all_fail}
use Rattle.observe_log.proofs.lines.read_lines.Goals as goal

pub returns-in-Err : goal.returns-in-Err
returns-in-Err c =
    let text = c.args.bytes.now in
    let line = c.in-Some.line.now in
    let words = c.in-Some-words_at.words in
    let cut = c.in-Some-words_at.ensures.readable in
    let rest = lines_of (drop c.in-Some.next text) in
    let more : is_last line rest ≡ false = not_last line rest words c.is_last.result cut.1 c.is_last.ensures c.if-is_last.false in
    let whole : lines_read c.args.board.now c.loop-line.number c.loop-line.reading (line ∷ rest) ≡ lines_read c.args.board.now c.args.first c.args.reading.now (lines_of (drop c.args.from text)) =
    ap (lines_read c.args.board.now c.loop-line.number c.loop-line.reading) (sym c.in-Some.ensures.line) ∙ c.loop-line.invariant.lines in
    all_fail c.args.board.now c.loop-line.number c.loop-line.reading c.read_line.new.reading line rest words _ cut.0 more cut.1 whole c.in-Err.fault
    (subst (λ (board : Board). AddsAll (Err c.in-Err.fault) c.read_line.new.reading (words_line board c.loop-line.number c.loop-line.reading words)) c.loop-line.invariant.board c.in-Err.ensures.read)

pub loop-line-preserved : goal.loop-line-preserved
loop-line-preserved c =
    let text = c.args.bytes.now in
    let line = c.in-Some.line.now in
    let words = c.in-Some-words_at.words in
    let cut = c.in-Some-words_at.ensures.readable in
    let rest = lines_of (drop c.in-Some.next text) in
    let old = c.loop-line.invariant in
    let more : is_last line rest ≡ false = not_last line rest words c.is_last.result cut.1 c.is_last.ensures c.if-is_last.false in
    let step = line_more c.args.board.now c.loop-line.number c.loop-line.reading c.read_line.new.reading line rest words cut.0 more cut.1
    (subst (λ (board : Board). words_line board c.loop-line.number c.loop-line.reading words ≡ Ok c.read_line.new.reading) old.board c.in-Ok.ensures.read) in
    let whole : lines_read c.args.board.now c.loop-line.number c.loop-line.reading (line ∷ rest) ≡ lines_read c.args.board.now c.args.first c.args.reading.now (lines_of (drop c.args.from text)) =
    ap (lines_read c.args.board.now c.loop-line.number c.loop-line.reading) (sym c.in-Some.ensures.line) ∙ old.lines in
    record {
      within = omega (arith, c.in-Some.ensures.within, c.in-Some.ensures.next);
      counted = omega (arith, old.counted, c.in-Some.ensures.next);
      few = omega (arith, old.few, c.in-Ok.ensures.few, c.in-Some-words_at.ensures.within, c.in-Some.ensures.next);
      board = c.read_line.ensures.board ∙ old.board;
      lines = sym step ∙ whole;
    }
