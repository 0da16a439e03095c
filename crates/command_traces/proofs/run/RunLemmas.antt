-- The text of a valid board and of a run of it is not refused.
use Rattle.std.proofs.Common.{◌≡◌, ℕ, List, ◌⊎◌, inr, refl, subst}
use Rattle.board_model.specs.declared.board.Board.{Board}
use Rattle.history_model.specs.declared.event.Event.{Event}
use Rattle.history_model.specs.Runs.{Run, history_of}
use Rattle.judge_state.proofs.RefusedLemmas.{no_refused}
use Rattle.program_input.specs.Traces.{IsRunTrace}
use Rattle.command_traces.specs.Runs.{RefusesRun}
use Rattle.program_status.specs.Subjects.{subject_of}
use Rattle.program_status.specs.Subjects.Subject.{Memory, Input}
use Rattle.program_input.specs.Refusals.{trace_refusal, IsRefusing}
use Rattle.program_input.proofs.RefusalLemmas.{refusal_subject}
use Rattle.program_input.proofs.TraceLemmas.{same_trace, read_refused_by_memory}
use Rattle.program_status.specs.declared.status.Status.{Status}
use Rattle.program_status.specs.declared.status.Status.TheVariants.{NoMemory, NotRun}

-- it is refused only for want of memory
run_is_answered : (input : List ℕ) (status : Status) → IsRunTrace input → RefusesRun input status → status ≡ NoMemory
run_is_answered input (NotRun event why) trace refuses =
    let same = same_trace input trace.board refuses.board trace.events refuses.events trace.reads.read refuses.reads.read in
    let run = subst (λ (b : Board). Run b (history_of refuses.events)) same.0 (subst (λ (l : List Event). Run trace.board (history_of l)) same.1 trace.run) in
    absurd (no_refused refuses.board refuses.events event why run refuses.refused)
run_is_answered input status trace refuses = read_refused_by_memory input trace.board trace.events status trace.reads refuses

-- a refusal speaks of memory or of the input
run_subject : (input : List ℕ) (status : Status) → RefusesRun input status → (subject_of status ≡ Memory) ⊎ (subject_of status ≡ Input)
run_subject input (NotRun event why) refuses = inr refl
run_subject input status refuses = refusal_subject (trace_refusal input) status refuses

pub run_refusing : IsRefusing RefusesRun IsRunTrace
run_refusing = record { served = run_is_answered; subject = run_subject }
