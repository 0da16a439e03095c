use Rattle.std.proofs.Common.{◌<◌, Option, ℕ, length, arith}
use Rattle.std.proofs.Math.ListN.{length-set}
use Rattle.trace_reader.specs.lines.Names.{above}
use Rattle.trace_reader.proofs.lines.NameLemmas.{known_more}
use Rattle.trace_reader.proofs.lines.names.bridges_of.Goals as goal

pub loop-bus-preserved : goal.loop-bus-preserved
loop-bus-preserved c =
    let inside : c.loop-bus.bus < length c.loop-bus.all = omega arith in
    record {
      long = omega (arith, length-set {A = Option ℕ});
      known = known_more c.loop-bus.all c.loop-bus.bus c.above.result (above c.args.board.now) inside c.above.ensures c.loop-bus.invariant.known;
    }
