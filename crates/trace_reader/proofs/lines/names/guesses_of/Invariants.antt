use Rattle.std.proofs.Common.{◌≡◌, length}
use Rattle.trace_reader.specs.lines.Names.{AreRight}
use Rattle.trace_reader.proofs.lines.names.guesses_of.Given as goal

abbrev pub invariant-loop-name : goal.invariant-loop-name
invariant-loop-name l = record {
  long : length l.guesses.items ≡ 256;
  right : AreRight l.places l.guesses.items;
}
