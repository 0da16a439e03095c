use Rattle.std.proofs.Common.{◌<◌, ◌++◌, false, length, get_or, arith, string_bytes}
use Rattle.std.proofs.lemmas.Option.{slice_get-get_or}
use Rattle.board_printer.specs.Lines.{text_of}
use Rattle.run_waves.specs.declared.reading.SignalReading.{SignalReading}
use Rattle.run_waves.specs.declared.reading.SignalReading.TheVariants.{Level}
use Rattle.run_waves.specs.declared.signal.BusPart.TheVariants as parts
use Rattle.run_waves.specs.declared.signal.Signal.{Signal}
use Rattle.run_waves.specs.declared.signal.Signal.TheVariants.{Bus}
use Rattle.run_waves.specs.Shown.{beginning}
use Rattle.run_waves.specs.Dump.{value_lines}
use Rattle.run_waves.proofs.ChangeLemmas.{values_more}
use Rattle.run_waves.proofs.dump.print_values.Goals as goal

pub loop-number-preserved : goal.loop-number-preserved
loop-number-preserved c = λ board reads.
    let i = c.loop-number.number in
    let signals = c.args.signals.now in
    let shown = c.args.shown.now in
    let s : Signal = Bus 0 parts.Event in
    let r : SignalReading = Level false in
    let within : i < length signals = c.loop-number-test.true in
    let so : i < length shown = omega (arith, c.requires, within) in
    let here = reads i (get_or signals i s) (get_or shown i r) (omega arith) (slice_get-get_or signals i s within) (slice_get-get_or shown i r so) in
    values_more board signals i s (string_bytes c.loop-number.text) (string_bytes c.print_value.new.text) (string_bytes c.args.text.now ++ text_of (value_lines board beginning 0 signals)) within
    (c.loop-number.invariant board reads) (c.in_ok-print_value.ensures board here)
