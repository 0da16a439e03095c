use Rattle.std.proofs.Common.{List, ℕ, Option, ◌++◌, ap, ◌∙◌, slice_get, string_bytes}
use Rattle.board_model.specs.declared.agents.Master.{Master}
use Rattle.run_report.specs.Lapses.{program_lapses}
use Rattle.run_report.proofs.RangeLemmas.{lines_more}
use Rattle.run_report.proofs.lapses.print_programs.Goals as goal

pub loop-place-preserved : goal.loop-place-preserved
loop-place-preserved c =
    let before : List ℕ = string_bytes c.loop-place.text in
    lines_more (λ place. program_lapses c.args.lapses.now place (slice_get c.args.board.now.masters place)) c.loop-place.place
    (string_bytes c.args.text.now) before _ c.loop-place.invariant
    (c.in_ok-print_program.ensures
    ∙ ap (λ (master : Option Master). before ++ program_lapses c.args.lapses.now c.loop-place.place master)
    (c.master_at.ensures ∙ ap (λ (masters : List Master). slice_get masters c.loop-place.place) c.as_slice-masters.ensures))
