use Rattle.std.proofs.Common.{Bor, List, Option, ℕ, sym, ap, ◌∙◌}
use Rattle.std.specs.Option.{option_map}
use Rattle.trace_reader.proofs.lines.CutLemmas.{second_behind, second_last}
use Rattle.trace_reader.proofs.lines.cut.+second_word.Goals as goal

pub returns-in_err-piece : goal.returns-in_err-piece
returns-in_err-piece t c =
    ap (λ (found : Option (Bor (List ℕ))). option_map (λ (word : Bor (List ℕ)). word.now) found) c.from_residual.ensures ∙ sym (second_last c.args.line.now c.in_err-piece.ensures)

pub returns-else-is_empty : goal.returns-else-is_empty
returns-else-is_empty t c =
    c.first_word.ensures ∙ sym (second_behind c.args.line.now c.in_ok-piece.piece.now c.in_ok-piece.behind.now c.is_empty.result c.in_ok-piece.ensures.0 c.in_ok-piece.ensures.1 c.in_ok-piece.ensures.2 c.is_empty.ensures c.if-is_empty.false)
