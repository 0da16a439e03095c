-- The text of a valid board and of a run of it on bridges that keep no local master is not refused.
use Rattle.std.proofs.Common.{◌≡◌, ℕ, List, ◌⊎◌, inr, refl, subst}
use Rattle.board_model.specs.declared.board.Board.{Board}
use Rattle.history_model.specs.declared.event.Event.{Event}
use Rattle.history_model.specs.declared.rule.Rule.TheVariants.{Untagged}
use Rattle.history_model.specs.Runs.{RunBy, history_of}
use Rattle.judge_state.proofs.RefusedLemmas.{no_refused_by}
use Rattle.program_status.specs.declared.status.Status.{Status}
use Rattle.program_status.specs.declared.status.Status.TheVariants.{NoMemory, NotRun}
use Rattle.program_status.specs.Subjects.{subject_of}
use Rattle.program_status.specs.Subjects.Subject.{Memory, Input}
use Rattle.program_input.specs.Refusals.{trace_refusal, IsRefusing}
use Rattle.program_input.proofs.RefusalLemmas.{refusal_subject}
use Rattle.program_input.proofs.TraceLemmas.{same_trace, read_refused_by_memory}
use Rattle.command_traces.specs.untagged.Answers.{RefusesUntagged, IsUntaggedTrace}

run_is_answered : (input : List ℕ) (status : Status) → IsUntaggedTrace input → RefusesUntagged input status → status ≡ NoMemory
run_is_answered input (NotRun event why) trace refuses =
    let same = same_trace input trace.board refuses.board trace.events refuses.events trace.reads.read refuses.reads.read in
    let run = subst (λ (b : Board). RunBy Untagged b (history_of refuses.events)) same.0 (subst (λ (l : List Event). RunBy Untagged trace.board (history_of l)) same.1 trace.run) in
    absurd (no_refused_by Untagged refuses.board refuses.events event why run refuses.refused.refused)
run_is_answered input status trace refuses = read_refused_by_memory input trace.board trace.events status trace.reads refuses

-- a refusal speaks of memory or of the input
untagged_subject : (input : List ℕ) (status : Status) → RefusesUntagged input status → (subject_of status ≡ Memory) ⊎ (subject_of status ≡ Input)
untagged_subject input (NotRun event why) refuses = inr refl
untagged_subject input status refuses = refusal_subject (trace_refusal input) status refuses

pub untagged_refusing : IsRefusing RefusesUntagged IsUntaggedTrace
untagged_refusing = record { served = run_is_answered; subject = untagged_subject }
