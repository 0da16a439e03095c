use Rattle.std.proofs.Common.{ℕ, List, ◌++◌, sym, ap, ◌∙◌, append_assoc, string_bytes, codes}
use Rattle.board_outline.specs.Outline.{blanks}
use Rattle.board_outline.proofs.RangeLemmas.{repeat_more}
use Rattle.board_outline.proofs.agents.print_blanks.Goals as goal

pub levels-preserved : goal.levels-preserved
levels-preserved c =
    c.in_ok-push_str.ensures.bytes
    ∙ ap (λ (t : List ℕ). t ++ codes "  ") c.levels.invariant
    ∙ append_assoc (string_bytes c.args.text.now) (blanks c.levels.counter) (codes "  ")
    ∙ ap (λ (t : List ℕ). string_bytes c.args.text.now ++ t) (sym (repeat_more c.levels.counter (codes "  ")))
