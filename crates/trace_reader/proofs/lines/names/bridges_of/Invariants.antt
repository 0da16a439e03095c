use Rattle.std.proofs.Common.{◌≡◌, ℕ, ◌<◌, None, length, get_or}
use Rattle.trace_reader.specs.lines.Names.{above}
use Rattle.trace_reader.proofs.lines.names.bridges_of.Given as goal

abbrev pub invariant-loop-bus : goal.invariant-loop-bus
invariant-loop-bus l = record {
  long : length l.all ≡ 256;
  known : (bus : ℕ) → bus < l.bus → get_or l.all bus None ≡ above l.board bus;
}
