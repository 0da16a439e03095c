use Rattle.std.proofs.Common.{string_bytes}
use Rattle.run_waves.proofs.DumpLemmas.{first_written}
use Rattle.run_waves.proofs.dump.print_first.Goals as goal

pub returns : goal.returns
returns c = λ board rest reads.
    first_written board c.args.signals.now rest (string_bytes c.args.text.now) (string_bytes c.print_time.new.text) (string_bytes c.writeln.new.self) (string_bytes c.print_values.new.text) (string_bytes c.writeln-2.new.self)
    c.in_ok-print_time.ensures c.in_ok-writeln.ensures.bytes (c.in_ok-print_values.ensures board reads) c.in_ok-writeln-2.ensures.bytes
