-- Events whose acts some run has are not refused; so is the text of a run. What is written is such a text.
use Rattle.std.proofs.Common.{◌≡◌, ℕ, List, [], ◌∷◌, ◌++◌, append_assoc, reverse, ◌⊎◌, inr, refl, ap, subst, ◌∙◌}
use Rattle.std.proofs.lemmas.List.{reverse-append}
use Rattle.board_model.specs.declared.board.Board.{Board}
use Rattle.history_model.specs.declared.event.Event.{Event}
use Rattle.history_model.specs.declared.event.Event.TheVariants.{Act, Arrive}
use Rattle.history_model.specs.declared.why.Why.{Why}
use Rattle.history_model.specs.Runs.{Run, history_of}
use Rattle.law_early.specs.Early.{acts_of}
use Rattle.judge_fill.specs.Filling.{ActRefused}
use Rattle.program_input.specs.Traces.{IsRunTrace}
use Rattle.program_status.specs.Subjects.{subject_of}
use Rattle.program_status.specs.Subjects.Subject.{Memory, Input}
use Rattle.program_input.specs.Refusals.{trace_refusal, IsRefusing}
use Rattle.program_input.proofs.RefusalLemmas.{refusal_subject}
use Rattle.program_input.proofs.TraceLemmas.{same_trace, read_refused_by_memory}
use Rattle.program_input.proofs.TreeLemmas.{faultless_tree}
use Rattle.command_traces.specs.fill.Answers.{AnswersFill, RefusesFill, HasRun}
use Rattle.program_status.specs.declared.status.Status.{Status}
use Rattle.program_status.specs.declared.status.Status.TheVariants.{NoMemory, NotRun}

acts_of-append : (xs ys : List Event) → acts_of (xs ++ ys) ≡ acts_of xs ++ acts_of ys
acts_of-append [] ys = refl
acts_of-append (Act on by o step place ∷ xs) ys = ap (λ (l : List Event). Act on by o step place ∷ l) (acts_of-append xs ys)
acts_of-append (Arrive lane mark ∷ xs) ys = acts_of-append xs ys

-- the acts of events, at one that is an act
acts_split : (before after : List Event) (act : Event) → acts_of (act ∷ []) ≡ act ∷ []
    → acts_of (history_of (before ++ act ∷ after)) ≡ acts_of (reverse after) ++ act ∷ acts_of (history_of before)
acts_split before after act is =
    let whole : history_of (before ++ act ∷ after) ≡ reverse after ++ act ∷ history_of before =
    reverse-append before (act ∷ after) ∙ (ap (λ (l : List Event). l ++ reverse before) (reverse-append (act ∷ []) after) ∙ append_assoc (reverse after) (act ∷ []) (reverse before)) in
    let one : acts_of (act ∷ history_of before) ≡ act ∷ acts_of (history_of before) =
    acts_of-append (act ∷ []) (history_of before) ∙ ap (λ (l : List Event). l ++ acts_of (history_of before)) is in
    ap acts_of whole ∙ (acts_of-append (reverse after) (act ∷ history_of before) ∙ ap (λ (l : List Event). acts_of (reverse after) ++ l) one)

-- no run has the acts of events of which one is refused
none_has : (board : Board) (events h : List Event) (number : ℕ) (why : Why) → ActRefused board events number why → Run board h → acts_of h ≡ acts_of (history_of events) → ⊥
none_has board events h number why refused run same =
    let whole = ap (λ (l : List Event). acts_of (history_of l)) refused.split ∙ acts_split refused.before refused.after refused.act refused.is_act in
    refused.no_run h (acts_of (reverse refused.after)) run (same ∙ whole)

acts_are_answered : (input : List ℕ) (status : Status) → HasRun input → RefusesFill input status → status ≡ NoMemory
acts_are_answered input (NotRun event why) has refuses =
    let same = same_trace input has.board refuses.board has.events refuses.events has.reads.read refuses.reads.read in
    let run : Run refuses.board has.history = subst (λ (b : Board). Run b has.history) same.0 has.run in
    absurd (none_has refuses.board refuses.events has.history event why refuses.refused run (has.same_acts ∙ ap (λ (l : List Event). acts_of (history_of l)) same.1))
acts_are_answered input status has refuses = read_refused_by_memory input has.board has.events status has.reads refuses

-- a refusal speaks of memory or of the input
fill_subject : (input : List ℕ) (status : Status) → RefusesFill input status → (subject_of status ≡ Memory) ⊎ (subject_of status ≡ Input)
fill_subject input (NotRun event why) refuses = inr refl
fill_subject input status refuses = refusal_subject (trace_refusal input) status refuses

pub fill_refusing : IsRefusing RefusesFill HasRun
fill_refusing = record { served = acts_are_answered; subject = fill_subject }

-- a run has its own acts
pub run_has : (input : List ℕ) → IsRunTrace input → HasRun input
run_has input trace = record { board = trace.board; events = trace.events; reads = trace.reads; history = history_of trace.events; run = trace.run; same_acts = refl }

-- what is written is the text of a run
pub filled_runs : (input text : List ℕ) → AnswersFill input text → IsRunTrace text
filled_runs input text answers =
    record { board = answers.board; events = answers.whole; reads = record { read = answers.writes.read_back; tree = faultless_tree answers.board answers.valid }; run = answers.fills.placed.run }
