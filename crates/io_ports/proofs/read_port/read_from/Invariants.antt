use Rattle.std.proofs.Common.{◌≡◌, is_some}
use Rattle.std.specs.Option.{option_and_then}
use Rattle.std.specs.Io.KnownBytes.{Keeps}
use Rattle.io_ports.proofs.read_port.read_from.Given as goal

abbrev pub invariant-loop : goal.invariant-loop
invariant-loop g l = record {
  keeps : Keeps (option_and_then g.R.Read.remaining l.initial.inner) (option_and_then g.R.Read.remaining l.inner);
  there : is_some l.inner ≡ is_some l.initial.inner;
}
