use Rattle.std.proofs.Common.{◌≡◌, ◌<◌, ◌+◌, ◌++◌, length, refl, sym, ap, subst, ◌∙◌, arith, string_bytes}
use Rattle.board_model.specs.declared.board.Board.{Board}
use Rattle.board_model.specs.declared.bridge.Place.TheVariants.{Target}
use Rattle.board_printer.specs.Lines.{text_of}
use Rattle.history_model.specs.declared.event.By.TheVariants.{Master}
use Rattle.history_model.specs.declared.event.Step.TheVariants.{Land}
use Rattle.history_model.specs.declared.event.Event.{Event}
use Rattle.history_model.specs.declared.event.Event.TheVariants.{Act}
use Rattle.run_waves.specs.Signals.{signals_of}
use Rattle.run_waves.specs.Blocks.{AreSpans}
use Rattle.run_waves.specs.Shown.{beginning, past}
use Rattle.run_waves.specs.Dump.{moments}
use Rattle.run_waves.proofs.DumpLemmas.{first_so_far, next_so_far, all_so_far, allowed_next}
use Rattle.run_waves.proofs.dump.print_moments.Goals as goal

pub loop-number-init : goal.loop-number-init
loop-number-init c =
    record {
      each = c.requires.each;
      so = first_so_far c.args.tree.now c.args.events.now c.args.blocks.now.signals.now (string_bytes c.args.text.now) c.args.shown.now.items c.args.watch.now.kept c.args.watch.now.waits.items c.args.watch.now.scene c.requires.at c.requires.reads;
    }

pub loop-number-preserved : goal.loop-number-preserved
loop-number-preserved c =
    let tree = c.args.tree.now in
    let events = c.args.events.now in
    let signals = c.args.blocks.now.signals.now in
    let whole = string_bytes c.args.text.now ++ text_of (moments tree 1 beginning events) in
    let i = c.loop-number.number in
    let was = c.loop-number.watch in
    let is = c.happen.new.self in
    let so = c.loop-number.invariant.so in
    let d : Event = Act 0 Master (record { master = 0; index = 0; attempt = 0 }) Land (Target 0) in
    let within : i < length events = c.loop-number-test.true in
    let allowed = allowed_next tree events i d (past so.moment) c.requires.run within so.past_is in
    let at = c.happen.ensures so.moment so.at allowed in
    record {
      each = c.loop-number.invariant.each ∙ sym c.in_ok-print_moment.ensures.each;
      so = next_so_far c.board-board.result.now tree events signals signals whole (string_bytes c.loop-number.text) (string_bytes c.print_moment.new.text)
          c.loop-number.shown.items c.print_moment.new.shown.items was.kept is.kept was.waits.items is.waits.items was.scene c.scene-from.result is.scene i d so within
          c.board-board.ensures.value refl (c.requires.signals ∙ ap signals_of (sym c.board-board.ensures.value)) c.scene-from.ensures at c.in_ok-print_moment.ensures.text c.in_ok-print_moment.ensures.reads;
    }

pub print_moment-requires-clause-spans : goal.print_moment-requires-clause-spans
print_moment-requires-clause-spans c =
    subst (λ (b : Board). AreSpans b c.args.blocks.now.signals.now c.args.blocks.now.spans.now) (sym c.board-board.ensures.value) c.requires.spans

pub print_moment-requires-2-clause-spans : goal.print_moment-requires-2-clause-spans
print_moment-requires-2-clause-spans c =
    subst (λ (b : Board). AreSpans b c.args.blocks.now.signals.now c.args.blocks.now.spans.now) (sym c.board-board.ensures.value) c.requires.spans

pub returns : goal.returns
returns c =
    let tree = c.args.tree.now in
    let events = c.args.events.now in
    let signals = c.args.blocks.now.signals.now in
    let whole = string_bytes c.args.text.now ++ text_of (moments tree 1 beginning events) in
    let was = c.loop-number.watch in
    let is = c.rest.new.self in
    let so = c.loop-number.invariant.so in
    let end : length events ≡ c.loop-number.number = omega (arith, c.loop-number-test.false, c.loop-number.auto.number-end) in
    all_so_far c.board-board.result.now tree events signals signals whole (string_bytes c.loop-number.text) (string_bytes c.print_moment-2.new.text)
    c.loop-number.shown.items was.kept is.kept was.waits.items is.waits.items was.scene c.scene-from-2.result is.scene c.loop-number.number (length events + 1) so end (ap (λ n. n + 1) end)
    c.board-board.ensures.value refl (c.requires.signals ∙ ap signals_of (sym c.board-board.ensures.value)) c.scene-from-2.ensures c.rest.ensures.kept (ap (λ w. w.items) c.rest.ensures.waits) c.rest.ensures.scene c.in_ok-print_moment-2.ensures.text
