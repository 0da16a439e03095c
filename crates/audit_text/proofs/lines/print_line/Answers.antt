use Rattle.std.proofs.Common.{◌∷◌, ◌++◌, map, codes, string_bytes}
use Rattle.std.proofs.lemmas.Result.{IfOk-weaker}
use Rattle.trace_text.specs.Words.{op_word}
use Rattle.audit_text.specs.Lines.{word_words, known_words}
use Rattle.audit_text.proofs.LineLemmas.{line_done}
use Rattle.audit_text.proofs.lines.print_line.Goals as goal

pub returns : goal.returns
returns c =
    let board = c.args.board.now in
    let found = c.args.found.now in
    IfOk-weaker _ _ _
    (λ _ ended. line_done (op_word board found.read) (word_words board found.word.target found.word.space found.word.address ++ (known_words board found.value found.write ++ codes "by" ∷ map (op_word board) found.chain))
    (string_bytes c.args.text.now) (string_bytes c.print_found.new.text) (string_bytes c.writeln.new.self) c.in_ok-print_found.ensures ended)
    c.writeln.ensures.bytes
