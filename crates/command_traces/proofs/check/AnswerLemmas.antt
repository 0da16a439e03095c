-- A complete run of a trace that was read.
use Rattle.std.proofs.Common.{◌≡◌, ℕ, List, length, subst, ap, ◌∙◌}
use Rattle.board_model.specs.Ways.{bound_of}
use Rattle.history_model.specs.declared.event.Event.{Event}
use Rattle.judge_check.specs.Verdicts.{CompleteRun}
use Rattle.program_input.specs.declared.trace.TreeTrace.{TreeTrace}
use Rattle.program_input.specs.Traces.{ReadsTree}
use Rattle.command_traces.specs.check.Answers.{check_text, AnswersCheck, Confirms}

pub confirmed : (input : List ℕ) (read : TreeTrace) (events : List Event) (text : List ℕ) → ReadsTree input read → events ≡ read.events → Confirms read.tree events text → AnswersCheck input text
confirmed input read events text reads same confirms =
    record {
      board = read.tree;
      events = read.events;
      reads = reads.reads;
      valid = reads.valid;
      run = subst (CompleteRun read.tree) same confirms.run;
      written = confirms.written ∙ ap (λ (xs : List Event). check_text (length xs) (bound_of read.tree)) same;
    }
