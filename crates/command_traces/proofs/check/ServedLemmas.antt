-- The text of a valid board and of a complete run of it is not refused.
use Rattle.std.proofs.Common.{◌≡◌, ℕ, List, ◌⊎◌, inr, refl, subst}
use Rattle.board_model.specs.declared.board.Board.{Board}
use Rattle.history_model.specs.declared.event.Event.{Event}
use Rattle.history_model.specs.Runs.{Run, Complete, history_of}
use Rattle.judge_state.proofs.RefusedLemmas.{no_refused}
use Rattle.program_status.specs.declared.status.Status.{Status}
use Rattle.program_status.specs.declared.status.Status.TheVariants.{NoMemory, NotRun, Incomplete}
use Rattle.program_input.specs.Traces.{IsCompleteTrace}
use Rattle.program_status.specs.Subjects.{subject_of}
use Rattle.program_status.specs.Subjects.Subject.{Memory, Input}
use Rattle.program_input.specs.Refusals.{trace_refusal, IsRefusing}
use Rattle.program_input.proofs.RefusalLemmas.{refusal_subject}
use Rattle.program_input.proofs.TraceLemmas.{same_trace, read_refused_by_memory}
use Rattle.command_traces.specs.check.Answers.{RefusesCheck}

complete_is_answered : (input : List ℕ) (status : Status) → IsCompleteTrace input → RefusesCheck input status → status ≡ NoMemory
complete_is_answered input (NotRun event why) trace refuses =
    let same = same_trace input trace.board refuses.board trace.events refuses.events trace.reads.read refuses.reads.read in
    let run = subst (λ (b : Board). Run b (history_of refuses.events)) same.0 (subst (λ (l : List Event). Run trace.board (history_of l)) same.1 trace.run) in
    absurd (no_refused refuses.board refuses.events event why run refuses.refused)
complete_is_answered input (Incomplete left) trace refuses =
    let same = same_trace input trace.board refuses.board trace.events refuses.events trace.reads.read refuses.reads.read in
    let complete = subst (λ (b : Board). Complete b (history_of refuses.events)) same.0 (subst (λ (l : List Event). Complete trace.board (history_of l)) same.1 trace.complete) in
    absurd (refuses.incomplete.incomplete complete)
complete_is_answered input status trace refuses = read_refused_by_memory input trace.board trace.events status trace.reads refuses

-- a refusal speaks of memory or of the input
check_subject : (input : List ℕ) (status : Status) → RefusesCheck input status → (subject_of status ≡ Memory) ⊎ (subject_of status ≡ Input)
check_subject input (NotRun event why) refuses = inr refl
check_subject input (Incomplete left) refuses = inr refl
check_subject input status refuses = refusal_subject (trace_refusal input) status refuses

pub check_refusing : IsRefusing RefusesCheck IsCompleteTrace
check_refusing = record { served = complete_is_answered; subject = check_subject }
