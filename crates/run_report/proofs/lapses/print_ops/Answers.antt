use Rattle.std.proofs.Common.{List, ℕ, Option, ◌++◌, ap, ◌∙◌, find, string_bytes}
use Rattle.run_report.specs.declared.lapses.Lapsed.{Lapsed}
use Rattle.run_report.specs.Lapses.{is_of, lapse_line}
use Rattle.run_report.proofs.RangeLemmas.{lines_more}
use Rattle.run_report.proofs.lapses.print_ops.Goals as goal

pub loop-index-preserved : goal.loop-index-preserved
loop-index-preserved c =
    let before : List ℕ = string_bytes c.loop-index.text in
    lines_more (λ index. lapse_line c.args.master.now.name index (find (is_of c.args.place index) c.args.lapses.now)) c.loop-index.index
    (string_bytes c.args.text.now) before _ c.loop-index.invariant
    (c.in_ok-print_lapse.ensures
    ∙ ap (λ (name : List ℕ). before ++ lapse_line name c.loop-index.index c.lapse_at.result) c.as_str.ensures.value
    ∙ ap (λ (found : Option Lapsed). before ++ lapse_line c.args.master.now.name c.loop-index.index found) c.lapse_at.ensures)
