-- The first event that is not allowed after those before it.
use Rattle.std.proofs.Common.{◌≡◌, ℕ, suc, ◌+◌, ◌<◌, List, [], ◌∷◌, ◌++◌, append_assoc, reverse, length, take, drop, get_or, Err, Some, subst, sym, ap, ◌∙◌, arith}
use Rattle.std.proofs.lemmas.List.{take-append-drop, length-take-le, reverse-append}
use Rattle.std.proofs.Math.Seq.{drop-cons}
use Rattle.board_model.specs.declared.board.Board.{Board}
use Rattle.history_model.specs.declared.event.Event.{Event}
use Rattle.history_model.specs.declared.why.Why.{Why}
use Rattle.history_model.specs.declared.rule.Rule.{Rule}
use Rattle.history_model.specs.declared.rule.Rule.TheVariants.{Tagged}
use Rattle.history_model.specs.Runs.{RunBy, Run, history_of}
use Rattle.machine_steps.proofs.VerdictLemmas.{allowed_exactly_by}
use Rattle.machine_steps.specs.Verdicts.{HoldsBy}
use Rattle.judge_state.specs.Refused.{FirstRefusedBy, FirstRefused}

pub refused_by : (rule : Rule) (board : Board) (events : List Event) (i : ℕ) (d : Event) (why : Why) → i < length events → RunBy rule board (history_of (take i events))
    → HoldsBy rule board (history_of (take i events)) (get_or events i d) (Some why) → FirstRefusedBy rule board events (i + 1) why
refused_by rule board events i d why within run cause =
    let whole = take-append-drop i events in
    let next = drop-cons events i d within in
    record {
      before = take i events;
      event = get_or events i d;
      after = drop (suc i) events;
      split = sym whole ∙ ap (λ (l : List Event). take i events ++ l) next;
      number_is = ap (λ (n : ℕ). n + 1) (sym (length-take-le i events (omega arith)));
      run = run;
      cause = cause;
    }

history_split : (before : List Event) (e : Event) (after : List Event) → history_of (before ++ e ∷ after) ≡ reverse after ++ e ∷ history_of before
history_split before e after =
    reverse-append before (e ∷ after) ∙ ap (λ (l : List Event). l ++ reverse before) (reverse-append (e ∷ []) after) ∙ append_assoc (reverse after) (e ∷ []) (reverse before)

-- under a rule: what stands before in a run is a run
run_before : (rule : Rule) (board : Board) (later h : List Event) → RunBy rule board (later ++ h) → RunBy rule board h
run_before rule board [] h run = run
run_before rule board (e ∷ later) h run = run_before rule board later h run.1

-- under a rule: in a run no event is refused
pub no_refused_by : (rule : Rule) (board : Board) (events : List Event) (number : ℕ) (why : Why) → RunBy rule board (history_of events) → FirstRefusedBy rule board events number why → ⊥
no_refused_by rule board events number why run refused =
    let P : List Event → Type 0 = λ l. RunBy rule board l in
    let whole = ap history_of refused.split ∙ history_split refused.before refused.event refused.after in
    let last = run_before rule board (reverse refused.after) (refused.event ∷ history_of refused.before) (subst P whole run) in
    let exact = allowed_exactly_by rule board (history_of refused.before) refused.event (Err why) refused.cause in
    let no = exact.1 last.0 in
    absurd cc

-- the same on bridges that keep the local master
pub no_refused : (board : Board) (events : List Event) (number : ℕ) (why : Why) → Run board (history_of events) → FirstRefused board events number why → ⊥
no_refused board events number why run refused = no_refused_by Tagged board events number why run refused
