use Rattle.std.proofs.Common.{List, ℕ, ◌++◌, sym, ap, subst, ◌∙◌, append_assoc, string_bytes}
use Rattle.std.proofs.lemmas.Result.{IfOk-equal}
use Rattle.board_printer.specs.Lines.{line_text, text_of}
use Rattle.run_waves.specs.declared.reading.SignalReading.{SignalReading}
use Rattle.run_waves.specs.Scenes.{ReadsFrom}
use Rattle.run_waves.specs.Dump.{time_line, change_lines}
use Rattle.run_waves.proofs.dump.print_moment.Goals as goal

pub returns-clause-text : goal.returns-clause-text
returns-clause-text c = λ before after follows scene was at.
    let board = c.args.board.now in
    let signals = c.args.blocks.now.signals.now in
    let rest = text_of (change_lines board before after 0 signals) in
    let old = string_bytes c.args.text.now in
    let time = line_text (time_line c.args.number) in
    let there = subst (λ (l : List SignalReading). ReadsFrom board before signals l 0) (sym c.as_mut_slice.ensures.value) was in
    IfOk-equal c.print_changes.result (string_bytes c.print_changes.new.text) (string_bytes c.print_time.new.text ++ rest) (old ++ (time ++ rest))
    (c.print_changes.ensures.text before after follows scene there at)
    (ap (λ (t : List ℕ). t ++ rest) c.in_ok-print_time.ensures ∙ append_assoc old time rest)
