use Rattle.std.proofs.Common.{◌<◌, ◌^◌, length, sym, subst, string_bytes}
use Rattle.std.proofs.lemmas.List.{length-reverse}
use Rattle.std.proofs.lemmas.Result.{IfOk-weaker}
use Rattle.board_model.specs.declared.board.Board.{Board}
use Rattle.history_model.specs.Runs.{history_of}
use Rattle.run_report.specs.Report.{operations_of}
use Rattle.run_report.proofs.OperationLemmas.{operations_few}
use Rattle.run_report.proofs.LineLemmas.{report_parts}
use Rattle.run_report.proofs.text.print_report.Goals as goal

pub operations_of-requires : goal.operations_of-requires
operations_of-requires c = subst (λ (b : Board). operations_of b < 2 ^ 32) (sym c.board-board.ensures.value) (operations_few c.args.tree.now c.board-board.ensures.valid)

pub returns : goal.returns
returns c =
    IfOk-weaker _ _ _
    (λ _ third. report_parts c.board-board.result.now c.args.tree.now (history_of c.args.events.now) c.buses_of.result c.masters_of.result c.operations_of.result (length c.args.events.now) c.bound.result c.tallies_of-tallies.result
    (string_bytes c.args.text.now) (string_bytes c.print_size.new.text) (string_bytes c.print_length.new.text) (string_bytes c.print_buses.new.text) c.board-board.ensures.value c.buses_of.ensures c.masters_of.ensures c.operations_of.ensures
    (sym (length-reverse c.args.events.now)) c.bound.ensures.value c.tallies_of-tallies.ensures c.in_ok-print_size.ensures c.in_ok-print_length.ensures third)
    c.print_buses.ensures
