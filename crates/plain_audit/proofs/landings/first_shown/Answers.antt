use Rattle.std.proofs.Common.{◌<◌, length, arith}
use Rattle.pci_command.specs.declared.op_id.OpId.{OpId}
use Rattle.board_model.specs.declared.bridge.Place.TheVariants.{Nobody}
use Rattle.history_model.specs.declared.event.By.TheVariants.{Master}
use Rattle.history_model.specs.declared.event.Step.TheVariants.{Stall}
use Rattle.history_model.specs.declared.event.Event.{Event}
use Rattle.history_model.specs.declared.event.Event.TheVariants.{Act}
use Rattle.history_model.specs.Runs.{history_of}
use Rattle.plain_audit.specs.Places.{dword}
use Rattle.plain_audit.proofs.PlaceLemmas.{shown_kept}
use Rattle.plain_audit.proofs.landings.first_shown.Goals as goal

pub loop-index-preserved : goal.loop-index-preserved
loop-index-preserved c =
    let w : OpId = c.args.places.now.write in
    let none : Event = Act 0 Master w Stall Nobody in
    let within : c.loop-index.index < length c.args.before.now = omega arith in
    shown_kept c.args.board.now w c.args.places.now.since (history_of c.args.before.now) c.args.before.now c.loop-index.index none (dword c.args.word) c.loop-index.shown c.or_shown-shown.result within c.loop-index.invariant (c.or_shown-shown.ensures none)
