use Rattle.std.proofs.Common.{◌≡◌, ◌++◌, string_bytes}
use Rattle.std.specs.List.{flat_map}
use Rattle.board_printer.specs.Lines.{text_of}
use Rattle.run_waves.specs.Signals.{signals_on}
use Rattle.run_waves.specs.Dump.{scopes}
use Rattle.run_waves.proofs.HeadLemmas.{buses_to}
use Rattle.run_waves.proofs.head.print_scopes.Given as goal

-- the buses so far
abbrev pub invariant-loop-bus : goal.invariant-loop-bus
invariant-loop-bus l =
    record {
      signals : l.signals.items ≡ flat_map (signals_on l.board) (buses_to l.board l.bus);
      text : string_bytes l.text ≡ string_bytes l.initial.text ++ text_of (scopes l.board 0 (buses_to l.board l.bus));
    }
