-- The lines of a run that was judged.
use Rattle.std.proofs.Common.{◌≡◌, ◌↔◌, ℕ, Bool, true, List, length, ap, ◌∙◌}
use Rattle.board_model.specs.declared.board.Board.{Board}
use Rattle.history_model.specs.declared.event.Event.{Event}
use Rattle.law_untagged.specs.Apart.{Apart}
use Rattle.untagged_check.specs.declared.verdict.Stale.{Stale}
use Rattle.untagged_check.specs.Judged.{UntaggedVerdict}
use Rattle.command_traces.specs.untagged.Lines.{untagged_text}
use Rattle.command_traces.specs.untagged.Answers.{Tells}

pub told : (board shown : Board) (events : List Event) (stale listed : List Stale) (apart : Bool) (text : List ℕ) → UntaggedVerdict board events stale → ((apart ≡ true) ↔ Apart board)
    → shown ≡ board → listed ≡ stale → text ≡ untagged_text shown (length events) listed apart → Tells board events text
told board shown events stale listed apart text verdict is_apart boards lists is =
    record {
      stale = stale;
      apart = apart;
      verdict = verdict;
      is_apart = is_apart;
      written = is ∙ (ap (λ (b : Board). untagged_text b (length events) listed apart) boards ∙ ap (λ (s : List Stale). untagged_text board (length events) s apart) lists);
    }
