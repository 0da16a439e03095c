use Rattle.std.proofs.Common.{◌≡◌, ℕ, List, [], ap, subst, ◌∙◌}
use Rattle.std.proofs.lemmas.Result.{IfOk-weaker}
use Rattle.board_model.specs.declared.board.Board.{Board}
use Rattle.history_model.specs.declared.event.Event.{Event}
use Rattle.history_model.specs.declared.why.Why.{Why}
use Rattle.history_model.specs.Runs.{history_of}
use Rattle.judge_state.specs.Refused.{FirstRefused}
use Rattle.judge_state.proofs.RefusedLemmas.{no_refused}
use Rattle.judge_finish.specs.Finishing.{IsUnfinished}
use Rattle.run_report.specs.Report.{report_of}
use Rattle.command_runs.proofs.generate.CountLemmas.{GeneratesTo-run}
use Rattle.command_runs.proofs.generate.answer.report_on.Goals as goal

pub returns-in-Ok : goal.returns-in-Ok
returns-in-Ok c =
    IfOk-weaker _ _ _
    (λ text is.
    GeneratesTo-run c.args.rounds.now c.args.tree.now c.in-Ok.events text c.requires (c.generated_boards_are_valid.ensures.bound c.args.rounds.now) c.board-board.ensures.valid c.in-Ok.ensures.ok.runs
    (is ∙ ap (λ es. report_of c.args.tree.now (history_of es)) c.as_slice.ensures))
    c.report.ensures

-- of no events none is refused
pub unreachable-requires : goal.unreachable-requires
unreachable-requires c =
    let board : Board = c.args.tree.now in
    let number : ℕ = c.in-Err-NotRun.field-0-0 in
    let why : Why = c.in-Err-NotRun.field-0-1 in
    let none : c.from_vec.result ≡ [] = c.from_vec.ensures ∙ c.new.ensures.items in
    let refused : FirstRefused board c.from_vec.result number why = subst (IsUnfinished board c.from_vec.result) c.in-Err-NotRun.field-0-is c.in-Err-NotRun.ensures.err in
    no_refused board [] number why tt (subst (λ (events : List Event). FirstRefused board events number why) none refused)
