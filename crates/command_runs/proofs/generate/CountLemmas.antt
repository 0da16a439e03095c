-- The generated boards are steady, so that each complete run of one has its way counts.
use Rattle.std.proofs.Common.{◌≡◌, ℕ, zero, suc, ◌*◌, Bool, true, List, [], ◌∷◌, refl, sym, ap, subst, ◌∙◌}
use Rattle.std.specs.Prelude.{codes}
use Rattle.std.specs.List.{list_all}
use Rattle.std.proofs.lemmas.List.{length-reverse}
use Rattle.board_model.specs.declared.agents.Master.{Master}
use Rattle.board_model.specs.declared.board.Board.{Board}
use Rattle.board_model.specs.Ways.{bound_of}
use Rattle.board_model.specs.Valid.{IsValid}
use Rattle.history_model.specs.declared.event.Event.{Event}
use Rattle.history_model.specs.Runs.{history_of}
use Rattle.judge_check.specs.Verdicts.{CompleteRun}
use Rattle.traffic_generator.specs.Generated.{program, program_drawn, round_drawn, generated, generated_masters}
use Rattle.run_report.specs.Report.{report_of}
use Rattle.run_report.specs.way_counts.Plain.{is_no_poll, is_straight, IsSteady}
use Rattle.run_report.specs.way_counts.WayCounts.{Weight, ways_weight}
use Rattle.run_report.specs.way_counts.Weighed.{weigh}
use Rattle.run_report.proofs.way_counts.Laws.{complete_weighs, complete_long, complete_report}
use Rattle.command_runs.specs.generate.Answers.{GeneratesTo}

program_straight : (first second rounds state : ℕ) → list_all is_no_poll (program first second rounds state) ≡ true
program_straight first second zero state = refl
program_straight first second (suc rounds) state = program_straight first second rounds (round_drawn state)

all_three : {X : Type 0} (f : X → Bool) (a b c : X) → f a ≡ true → f b ≡ true → f c ≡ true → list_all f (a ∷ b ∷ c ∷ []) ≡ true
all_three f a b c of-a of-b of-c = rw (of-a, of-b, of-c) refl

masters_straight : (rounds state : ℕ) → list_all is_straight (generated_masters rounds state) ≡ true
masters_straight rounds state =
    let second = program_drawn rounds state in
    let third = program_drawn rounds second in
    let m0 : Master = record { name = codes "m0"; bus = 0; ops = program 0x80100000 0x90100000 rounds state } in
    let m2 : Master = record { name = codes "m2"; bus = 2; ops = program 0x90100000 0x10000000 rounds second } in
    let m4 : Master = record { name = codes "m4"; bus = 4; ops = program 0x10000000 0x80100000 rounds third } in
    all_three is_straight m0 m2 m4
    (program_straight 0x80100000 0x90100000 rounds state)
    (program_straight 0x90100000 0x10000000 rounds second)
    (program_straight 0x10000000 0x80100000 rounds third)

generated_steady : (rounds : ℕ) → IsSteady (generated rounds)
unfolding generated
generated_steady rounds = record { targets = refl; masters = masters_straight rounds rounds; discards = refl; drops = refl }

-- a complete run of the generated board, and its report
pub GeneratesTo-run : (rounds : ℕ) (board : Board) (events : List Event) (text : List ℕ) → board ≡ generated rounds → bound_of (generated rounds) ≡ 97 * rounds → IsValid board → CompleteRun board events → text ≡ report_of board (history_of events)
    → GeneratesTo rounds text
GeneratesTo-run rounds board events text is bound valid runs written =
    let here : IsValid (generated rounds) = subst IsValid is valid in
    let run : CompleteRun (generated rounds) events = subst (λ (b : Board). CompleteRun b events) is runs in
    let told : text ≡ report_of (generated rounds) (history_of events) = written ∙ ap (λ (b : Board). report_of b (history_of events)) is in
    let h = history_of events in
    let weighs : (weight : Weight) → weigh (generated rounds) weight h ≡ ways_weight (generated rounds) weight = λ weight. complete_weighs (generated rounds) weight h here (generated_steady rounds) run.run run.complete in
    record {
      valid = here;
      events = events;
      runs = run;
      many = sym (length-reverse events) ∙ complete_long (generated rounds) h weighs here (generated_steady rounds) ∙ bound;
      written = told;
      counted = told ∙ complete_report (generated rounds) h weighs here (generated_steady rounds);
    }
