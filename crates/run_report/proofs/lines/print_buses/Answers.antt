use Rattle.std.proofs.Common.{◌≡◌, ◌++◌, ◌<◌, ℕ, length, sym, ap, subst, ◌∙◌, arith, string_bytes, get_or}
use Rattle.std.proofs.lemmas.List.{get_or_default}
use Rattle.board_model.specs.Valid.{is_bus}
use Rattle.board_printer.specs.Lines.{line_text}
use Rattle.run_report.specs.declared.tallies.Tally.{Tally}
use Rattle.run_report.specs.Report.{bus_line}
use Rattle.run_report.specs.Tallies.{count_in, tally_at, no_tally}
use Rattle.run_report.proofs.LineLemmas.{lines_one, lines_none, lines_to}
use Rattle.run_report.proofs.lines.print_buses.Goals as goal
use Rattle.run_report.proofs.lines.print_buses.Goals.{then-is_bus+in_ok-print_bus, else-is_bus}

pub loop-bus-preserved : goal.loop-bus-preserved
loop-bus-preserved c =
    elim c.if-is_bus.branch [
      | then-is_bus+in_ok-print_bus w ↦
          let within : c.loop-bus.bus < length c.args.tallies.now = omega (arith, c.loop-bus-test.true, c.told-tallies) in
          lines_one (is_bus c.args.board.now) (λ bus. bus_line bus (count_in (tally_at c.args.tallies.now bus))) c.loop-bus.bus (string_bytes c.args.text.now) (string_bytes c.loop-bus.text) (string_bytes c.if-is_bus.text)
          (sym c.is_bus.ensures ∙ w.if-is_bus.true) c.loop-bus.invariant
          (ap string_bytes w.text-is ∙ w.in_ok-print_bus.ensures
          ∙ ap (λ (t : Tally). string_bytes c.loop-bus.text ++ line_text (bus_line c.loop-bus.bus (count_in t))) (ap (λ (n : ℕ). get_or c.args.tallies.now n _) w.from.ensures ∙ get_or_default c.args.tallies.now c.loop-bus.bus _ no_tally within))
      | else-is_bus w ↦
          lines_none (is_bus c.args.board.now) (λ bus. bus_line bus (count_in (tally_at c.args.tallies.now bus))) c.loop-bus.bus (string_bytes c.args.text.now) (string_bytes c.if-is_bus.text) (sym c.is_bus.ensures ∙ w.if-is_bus.false) (ap string_bytes w.text-is ∙ c.loop-bus.invariant)
    ]

pub returns : goal.returns
returns c = let end : c.loop-bus.bus ≡ 256 = omega (arith, c.loop-bus.auto.bus-end, c.loop-bus-test.false) in
    subst (λ n. string_bytes c.loop-bus.text ≡ string_bytes c.args.text.now ++ lines_to (is_bus c.args.board.now) (λ bus. bus_line bus (count_in (tally_at c.args.tallies.now bus))) n) end c.loop-bus.invariant
