-- The text of events of which few enough are to be drawn is not refused, and what is drawn ends well.
use Rattle.std.proofs.Common.{◌≡◌, ◌<◌, ◌≤◌, ℕ, List, ◌⊎◌, inr, refl, sym, ap, ◌∙◌, length, subst, arith}
use Rattle.board_model.specs.declared.board.Board.{Board}
use Rattle.history_model.specs.declared.event.Event.{Event}
use Rattle.draw_told.specs.declared.close.Close.{Close}
use Rattle.draw_told.specs.declared.close.Close.TheVariants.{Ended, NotEnded, Refused}
use Rattle.program_input.specs.Refusals.{trace_refusal, IsRefusing}
use Rattle.program_input.proofs.RefusalLemmas.{refusal_subject}
use Rattle.program_input.proofs.TraceLemmas.{same_trace, read_refused_by_memory}
use Rattle.program_status.specs.declared.status.Status.{Status}
use Rattle.program_status.specs.declared.status.Status.TheVariants.{NoMemory, TooManyEvents}
use Rattle.program_status.specs.Subjects.{subject_of, IsSuccess}
use Rattle.program_status.specs.Subjects.Subject.{Success, Memory, Input}
use Rattle.command_traces.specs.draw.Rows.{Asked, drawn_count}
use Rattle.command_traces.specs.draw.Answers.{AnswersDraw, RefusesDraw, IsDrawable, Shows, FewDrawn, ending_of}

-- it is refused only for want of memory
drawable_is_answered : (asked : Asked) (input : List ℕ) (status : Status) → IsDrawable asked input → RefusesDraw input asked status → status ≡ NoMemory
drawable_is_answered asked input (TooManyEvents count) drawable refuses =
    let same = same_trace input drawable.board refuses.board drawable.events refuses.events drawable.reads.read refuses.reads.read in
    let few_of : FewDrawn drawable.board refuses.events asked = subst (λ (l : List Event). FewDrawn drawable.board l asked) same.1 drawable.few in
    let few : FewDrawn refuses.board refuses.events asked = subst (λ (b : Board). FewDrawn b refuses.events asked) same.0 few_of in
    let within = few refuses.shown refuses.close refuses.shows in
    let many = subst (λ (n : ℕ). 4096 < n) refuses.counts.counted refuses.counts.many in
    absurd (omega (arith, many, within))
drawable_is_answered asked input status drawable refuses = read_refused_by_memory input drawable.board drawable.events status drawable.reads refuses

-- a refusal speaks of memory or of the input
draw_subject : (asked : Asked) (input : List ℕ) (status : Status) → RefusesDraw input asked status → (subject_of status ≡ Memory) ⊎ (subject_of status ≡ Input)
draw_subject asked input (TooManyEvents count) refuses = inr refl
draw_subject asked input status refuses = refusal_subject (trace_refusal input) status refuses

pub draw_refusing : (asked : Asked) → IsRefusing (λ input status. RefusesDraw input asked status) (IsDrawable asked)
draw_refusing asked = record { served = drawable_is_answered asked; subject = draw_subject asked }

-- the text is whole in the sink, however what is shown ends
ends_well : (count : ℕ) (close : Close) → subject_of (ending_of count close) ≡ Success
ends_well count Ended = refl
ends_well count NotEnded = refl
ends_well count (Refused why sentence) = refl

pub draw_succeeds : (asked : Asked) (input text : List ℕ) (ending : Status) → AnswersDraw input asked text ending → IsSuccess ending
draw_succeeds asked input text ending answers = ap subject_of answers.draws.ends ∙ ends_well (length answers.shown) answers.close
