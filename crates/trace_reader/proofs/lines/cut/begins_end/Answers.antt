use Rattle.std.proofs.Common.{List, ℕ, sym, ap, ◌∙◌}
use Rattle.std.specs.Str.{bytes_eq}
use Rattle.board_statements.specs.Words.{before_mark}
use Rattle.trace_reader.proofs.lines.CutLemmas.{begins_cut, begins_none}
use Rattle.trace_reader.proofs.lines.cut.begins_end.Goals as goal

pub returns-in-Some : goal.returns-in-Some
returns-in-Some c =
    c.eq.ensures ∙ ap (λ (word : List ℕ). bytes_eq word c.as_slice.result.now) c.in-Some.ensures.1 ∙ ap (bytes_eq (before_mark 32 c.args.line.now)) c.as_slice.ensures ∙ sym (begins_cut c.args.line.now c.in-Some.ensures.0)

pub returns-in-None : goal.returns-in-None
returns-in-None c = sym (begins_none c.args.line.now c.in-None.ensures)
