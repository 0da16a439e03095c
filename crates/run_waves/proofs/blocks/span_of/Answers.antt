use Rattle.std.proofs.Common.{◌<◌, length, arith}
use Rattle.std.proofs.lemmas.Option.{slice_get_within}
use Rattle.run_waves.specs.declared.signal.BusPart.TheVariants as parts
use Rattle.run_waves.specs.declared.signal.Signal.{Signal}
use Rattle.run_waves.specs.declared.signal.Signal.TheVariants.{Bus}
use Rattle.run_waves.proofs.BlockLemmas.{span_more}
use Rattle.run_waves.proofs.blocks.span_of.Goals as goal

pub loop-number-preserved : goal.loop-number-preserved
loop-number-preserved c =
    let d : Signal = Bus 0 parts.Event in
    let within : c.loop-number.number < length c.args.signals.now = omega (arith, c.loop-number-test.true, c.min-number-end.ensures) in
    span_more c.args.board.now c.args.signals.now c.args.start c.loop-number.number c.home-bus.result c.min.result c.max.result d c.loop-number.span within c.home-bus.ensures c.min.ensures c.max.ensures c.loop-number.invariant

pub returns : goal.returns
returns c = λ k signal from less is.
    let within : k < length c.args.signals.now = slice_get_within c.args.signals.now k signal is in
    let below : k < c.loop-number.number = omega (arith, c.loop-number-test.false, c.min-number-end.ensures, less, within) in
    c.loop-number.invariant k signal from below is
