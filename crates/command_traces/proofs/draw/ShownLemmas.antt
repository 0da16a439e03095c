-- What is shown of events that are no run: those before the first that is not allowed, and that one.
use Rattle.std.proofs.Common.{◌≡◌, ◌<◌, ◌≤◌, ◌^◌, ◌+◌, ◌-◌, ℕ, suc, List, ◌∷◌, ◌++◌, length, take, drop, sym, ap, subst, ◌∙◌, arith, length-append}
use Rattle.std.specs.Prelude.{min, false, nat_lt}
use Rattle.std.proofs.lemmas.List.{length-take-le, length-reverse, take-take, take-append-le, take_all, take-append-drop}
use Rattle.board_model.specs.declared.board.Board.{Board}
use Rattle.history_model.specs.declared.event.Event.{Event}
use Rattle.history_model.specs.declared.why.Why.{Why}
use Rattle.history_model.specs.Runs.{Run, history_of}
use Rattle.judge_state.specs.Refused.{FirstRefused}
use Rattle.program_pages.specs.Sentences.{sentence_of}
use Rattle.command_traces.specs.draw.Answers.{EndsRefused}

module _ (board : Board) (events : List Event) (number : ℕ) (why : Why) (refused : FirstRefused board events number why) where
  whole : length events ≡ length refused.before + suc (length refused.after)
  whole = ap length refused.split ∙ length-append refused.before (refused.event ∷ refused.after)

  within : number ≤ length events
  within =
      let long = whole in
      let is = refused.number_is in
      omega (arith, long, is)

  taken_length : length (take number events) ≡ number
  taken_length = length-take-le number events within

  front : take (length refused.before) events ≡ refused.before
  front =
      ap (take (length refused.before)) refused.split
      ∙ (take-append-le (length refused.before) refused.before (refused.event ∷ refused.after) (omega arith)
      ∙ take_all (length refused.before) refused.before (omega arith))

  taken_before : take (length (take number events) - 1) (take number events) ≡ refused.before
  taken_before =
      let is = refused.number_is in
      let all = taken_length in
      let fewer : length (take number events) - 1 ≡ length refused.before = omega (arith, all, is) in
      let less : length refused.before ≤ number = omega (arith, is) in
      ap (λ n. take n (take number events)) fewer ∙ (take-take (length refused.before) number events less ∙ front)

  -- what is shown is the run before that event, and it
  pub ends_refused : (shown : List Event) (sentence : List ℕ) → shown ≡ take number events → sentence ≡ sentence_of why → EndsRefused board events shown why sentence
  ends_refused shown sentence is told = record {
    after = drop number events;
    split = sym (ap (λ (l : List Event). l ++ drop number events) is ∙ take-append-drop number events);
    refused = subst (λ n. FirstRefused board events n why) (sym (ap length is ∙ taken_length)) refused;
    told = told;
  }

  pub shown_run : (shown : List Event) → shown ≡ take number events → Run board (history_of (take (length shown - 1) shown))
  shown_run shown is =
      subst (λ (l : List Event). Run board (history_of (take (length l - 1) l))) (sym is)
      (subst (λ (l : List Event). Run board (history_of l)) (sym taken_before) refused.run)

  -- a run has at most so many events, and one more is shown
  pub shown_few : (shown : List Event) (bound : ℕ) → shown ≡ take number events → ((h : List Event) → Run board h → length h ≤ bound) → nat_lt 500000 bound ≡ false → length shown < 2 ^ 31
  shown_few shown bound is bounded small =
      let within = bounded (history_of refused.before) refused.run in
      let same = length-reverse refused.before in
      let all = ap length is ∙ taken_length in
      let number_is = refused.number_is in
      grind (arith, within, same, all, number_is, small)
