-- All that holds of the judgement.
use Rattle.std.proofs.Common.{◌≡◌, ◌↔◌, ℕ, true, Contains, List, [], sym, ap, ◌∙◌}
use Rattle.pci_command.specs.declared.op_id.OpId.{OpId}
use Rattle.board_model.specs.declared.board.Board.{Board}
use Rattle.history_model.specs.declared.event.Event.{Event}
use Rattle.history_model.specs.declared.rule.Rule.TheVariants.{Untagged}
use Rattle.history_model.specs.declared.why.Why.{Why}
use Rattle.history_model.specs.Runs.{RunBy, Run, history_of}
use Rattle.law_untagged.specs.Untagged.{UntaggedRun}
use Rattle.law_untagged.specs.Apart.{Apart}
use Rattle.law_untagged.specs.Origins.{UntaggedFresh}
use Rattle.law_untagged.specs.Stale.{Breaks, breaks, stale_of, reads_listed}
use Rattle.law_untagged.specs.Sound.{SoundRun}
use Rattle.judge_state.specs.Refused.{FirstRefusedBy}
use Rattle.judge_state.proofs.RefusedLemmas.{no_refused_by}
use Rattle.untagged_check.specs.declared.verdict.Stale.{Stale}
use Rattle.untagged_check.specs.Judged.{reads_of, UntaggedVerdict, UntaggedRefused}
use Rattle.untagged_check.proofs.ListLemmas.{reads_none}

pub verdict_of_run : (board : Board) (events : List Event) (stale : List Stale) → RunBy Untagged board (history_of events) → reads_of stale ≡ stale_of board (history_of events)
    → (UntaggedFresh board (history_of events) ↔ (stale_of board (history_of events) ≡ [])) → ((w r : OpId) → (breaks board (history_of events) w r ≡ true) ↔ Breaks board (history_of events) w r)
    → ((r : OpId) → Contains (reads_listed board (history_of events)) r ↔ ((w : OpId) × Breaks board (history_of events) w r))
    → (Apart board → SoundRun board (history_of events)) → UntaggedVerdict board events stale
verdict_of_run board events stale run are fresh each listed sound =
    record {
      run = run;
      stale_are = are;
      fresh = (λ is. reads_none stale (are ∙ fresh.0 is), λ none. fresh.1 (sym are ∙ ap reads_of none));
      each = each;
      listed = listed;
      apart = λ apart. (sound apart, reads_none stale (are ∙ (sound apart).none_stale));
    }

pub verdict_of_refused : (board : Board) (events : List Event) (number : ℕ) (why : Why) → FirstRefusedBy Untagged board events number why → (Apart board → UntaggedRun board (history_of events) ↔ Run board (history_of events))
    → UntaggedRefused board events number why
verdict_of_refused board events number why refused alike =
    record { refused = refused; apart = λ apart run. no_refused_by Untagged board events number why ((alike apart).1 run) refused }
