use Rattle.std.proofs.Common.{List, length, refl, sym, ap, ◌++◌, ◌∙◌, string_bytes}
use Rattle.board_model.specs.declared.board.Board.{Board}
use Rattle.board_printer.specs.Lines.{text_of}
use Rattle.run_waves.specs.declared.reading.SignalReading.{SignalReading}
use Rattle.run_waves.specs.declared.signal.Signal.{Signal}
use Rattle.run_waves.specs.Signals.{signals_of}
use Rattle.run_waves.specs.Shown.{beginning}
use Rattle.run_waves.specs.Dump.{head_lines, moments}
use Rattle.run_waves.proofs.BlockLemmas.{spans_given}
use Rattle.run_waves.proofs.DumpLemmas.{first_reads, all_written}
use Rattle.run_waves.proofs.dump.print_watched.Goals as goal

pub print_first-requires : goal.print_first-requires
print_first-requires c =
    ap (λ (l : List Signal). length l) (c.deref-2.ensures.value ∙ sym c.deref.ensures.value) ∙ sym c.in_ok-shown.ensures.each ∙ ap (λ (l : List SignalReading). length l) (sym c.deref-3.ensures.value)

pub print_moments-requires : goal.print_moments-requires
print_moments-requires c =
    let board = c.board-board.result.now in
    let watch = c.args.watch.now in
    record {
      run = c.requires.run;
      each = ap (λ (l : List Signal). length l) (c.deref-5.ensures.value ∙ sym c.deref.ensures.value) ∙ sym c.in_ok-shown.ensures.each;
      signals = c.deref-5.ensures.value ∙ c.in_ok-signals.ensures.signals ∙ ap signals_of c.board-board.ensures.value;
      spans = spans_given board c.args.tree.now c.deref-4.result.now c.deref-5.result.now c.in_ok-spans.spans.items c.deref-6.result.now
          c.board-board.ensures.value (c.deref-4.ensures.value ∙ sym c.deref-5.ensures.value) (sym c.deref-6.ensures.value) c.in_ok-spans.ensures;
      at = c.requires.at;
      reads = first_reads board c.args.tree.now c.deref.result.now c.deref-5.result.now c.in_ok-shown.shown.items c.in_ok-shown.shown.items watch.kept watch.waits.items watch.scene
          c.board-board.ensures.value (c.deref.ensures.value ∙ sym c.deref-5.ensures.value) refl c.requires.at c.in_ok-shown.ensures.reads;
    }

pub returns : goal.returns
returns c =
    let board = c.board-board.result.now in
    let tree = c.args.tree.now in
    let events = c.args.events.now in
    let watch = c.args.watch.now in
    let same = c.board-board.ensures.value in
    let reads = first_reads board tree c.deref.result.now c.deref-2.result.now c.in_ok-shown.shown.items c.deref-3.result.now watch.kept watch.waits.items watch.scene
    same (c.deref.ensures.value ∙ sym c.deref-2.ensures.value) (sym c.deref-3.ensures.value) c.requires.at c.in_ok-shown.ensures.reads in
    all_written tree events c.deref-2.result.now (string_bytes c.args.text.now) (string_bytes c.print_head.new.text) (string_bytes c.print_first.new.text) (string_bytes c.print_moments.new.text)
    (c.deref-2.ensures.value ∙ c.in_ok-signals.ensures.signals ∙ ap signals_of same)
    (c.in_ok-signals.ensures.text ∙ ap (λ (b : Board). string_bytes c.args.text.now ++ text_of (head_lines b)) same)
    (c.in_ok-print_first.ensures tree (moments tree 1 beginning events) reads) c.in_ok-print_moments.ensures
