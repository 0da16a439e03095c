use Rattle.std.proofs.Common.{◌∙◌, refl, arith}
use Rattle.run_report.proofs.TallyLemmas.{tallied_none, tallied_more, tally_fits}
use Rattle.run_report.proofs.tallies.tallies_of.Goals as goal

pub loop-event-init : goal.loop-event-init
loop-event-init c = tallied_none c.args.board.now _ refl

pub note-requires : goal.note-requires
note-requires c =
    tally_fits c.args.board.now c.args.events.now c.loop-event.event-index c.loop-event.tallies c.from.result c.loop-event.invariant (omega (arith, c.from.ensures, c.bus_of.type_inv)) c.loop-event-test.true (omega arith)

pub loop-event-preserved : goal.loop-event-preserved
loop-event-preserved c =
    tallied_more c.args.board.now c.args.events.now c.loop-event.event-index _ c.loop-event.tallies c.from.result c.kind_of.result c.note.new.tally c.loop-event-test.true (omega (arith, c.from.ensures, c.bus_of.type_inv))
    (c.from.ensures ∙ c.bus_of.ensures) c.kind_of.ensures c.note.ensures c.loop-event.invariant
