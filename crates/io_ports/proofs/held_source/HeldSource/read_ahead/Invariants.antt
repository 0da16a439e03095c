use Rattle.std.proofs.Common.{◌≡◌, ◌-◌, ◌<◌, ◌≤◌, vec_len}
use Rattle.std.specs.Io.KnownBytes.{Consumes}
use Rattle.io_ports.proofs.held_source.HeldSource.read_ahead.Given as goal

abbrev pub invariant-turns : goal.invariant-turns
invariant-turns g l = record {
  read : Consumes (g.S.Source.held l.initial.source) (g.S.Source.held l.source) l.bytes.items;
  clean : g.S.Source.faults l.source ≡ g.S.Source.faults l.initial.source;
  within : vec_len l.bytes ≤ l.most;
  room : 0 < vec_len l.buffer;
}

abbrev pub decreases-turns : goal.decreases-turns
decreases-turns g l = l.most - vec_len l.bytes
