use Rattle.std.proofs.Common.{◌≡◌, ◌<◌, ◌≤◌, ◌+◌, ◌++◌, min, eqb, false, length, get_or, List, Some, sym, ap, subst, ◌∙◌, arith, append-nil, string_bytes, slice_get}
use Rattle.std.proofs.lemmas.Bool.Decides.{nat_tests}
use Rattle.std.proofs.lemmas.Option.{slice_get-get_or}
use Rattle.board_printer.specs.Lines.{Line, text_of}
use Rattle.run_waves.specs.declared.reading.SignalReading.{SignalReading}
use Rattle.run_waves.specs.declared.reading.SignalReading.TheVariants.{Level}
use Rattle.run_waves.specs.declared.signal.BusPart.TheVariants as parts
use Rattle.run_waves.specs.declared.signal.Signal.{Signal}
use Rattle.run_waves.specs.declared.signal.Signal.TheVariants.{Bus}
use Rattle.run_waves.specs.declared.touched.Touch.{Touch}
use Rattle.run_waves.specs.Scenes.{ReadsBelow}
use Rattle.run_waves.specs.Dump.{change_line}
use Rattle.run_waves.specs.Blocks.{lines_from}
use Rattle.run_waves.specs.Touched.{may_change, touch_of}
use Rattle.run_waves.proofs.WatchLemmas.{set_other}
use Rattle.run_waves.proofs.ReadLemmas.{reads_more, reads_kept}
use Rattle.run_waves.proofs.BlockLemmas.{lines_end, reads_end}
use Rattle.run_waves.proofs.ChangeLemmas.{changes_more}
use Rattle.run_waves.proofs.TouchLemmas.{untouched_line, untouched_reads}
use Rattle.run_waves.proofs.dump.print_block.Goals as goal
use Rattle.run_waves.proofs.dump.print_block.Goals.{then-may_change+in_ok-shown, else-may_change}

pub loop-number-preserved : goal.loop-number-preserved
loop-number-preserved c =
    let i = c.loop-number.number in
    let start = c.args.start in
    let board = c.args.board.now in
    let signals = c.args.signals.now in
    let shown = c.loop-number.shown in
    let first = c.args.shown.now in
    let s : Signal = Bus 0 parts.Event in
    let r : SignalReading = Level false in
    let signal : Signal = get_or signals i s in
    let reading : SignalReading = get_or shown i r in
    let text = string_bytes c.loop-number.text in
    let from : start ≤ i = c.loop-number.auto.number in
    let within : i < length signals = omega (arith, c.loop-number-test.true, c.min-number-end.ensures) in
    let so : i < length shown = omega (arith, c.requires.each, within, c.loop-number.auto.shown) in
    let signal_at = slice_get-get_or signals i s within in
    let reading_here : slice_get shown i ≡ Some reading = slice_get-get_or shown i r so in
    let reading_at : slice_get first i ≡ Some reading = sym (c.loop-number.invariant.rest i (omega arith)) ∙ reading_here in
    elim c.if-may_change.branch [
      | then-may_change+in_ok-shown w ↦
          let new = w.in_ok-shown.field-0 in
          record {
            text = λ before after follows scene was at.
                ap (λ t. string_bytes t ++ text_of (lines_from board before after (i + 1) signals)) w.text-is
                ∙ changes_more board before after signals i s text (string_bytes w.print_change.new.text) (string_bytes c.args.text.now ++ text_of (lines_from board before after start signals)) within
                (c.loop-number.invariant.text before after follows scene was at)
                (w.in_ok-shown.ensures.text before after scene (was i signal reading from signal_at reading_at) at);
            reads = λ before after follows scene was at below.
                subst (λ (l : List SignalReading). ReadsBelow board after signals l (i + 1)) (sym w.shown-is)
                (reads_more board after signals shown i new signal so (c.loop-number.invariant.reads before after follows scene was at below) signal_at (w.in_ok-shown.ensures.reads after at));
            rest = λ k more.
                let apart : eqb i k ≡ false = grind (arith, nat_tests) in
                ap (λ (l : List SignalReading). slice_get l k) w.shown-is ∙ set_other shown i k new apart ∙ c.loop-number.invariant.rest k (omega (arith, more));
          }
      | else-may_change w ↦
          let off : may_change (touch_of board c.args.passed.now.from c.scene.result) signal ≡ false =
          ap (λ (t : Touch). may_change t signal) (sym c.of-touch.ensures) ∙ sym c.may_change.ensures ∙ w.if-may_change.false in
          record {
            text = λ before after follows scene was at.
                let none = untouched_line board before after c.args.passed.now.from c.scene.result i signal follows scene (c.scene.ensures ∙ at.scene_is) off in
                let same : text ≡ text ++ text_of (change_line board before after i signal) = sym (append-nil text) ∙ ap (λ (l : List Line). text ++ text_of l) (sym none) in
                ap (λ t. string_bytes t ++ text_of (lines_from board before after (i + 1) signals)) w.text-is
                ∙ changes_more board before after signals i s text text (string_bytes c.args.text.now ++ text_of (lines_from board before after start signals)) within
                (c.loop-number.invariant.text before after follows scene was at) same;
            reads = λ before after follows scene was at below.
                let old = was i signal reading from signal_at reading_at in
                let still = untouched_reads board before after c.args.passed.now.from c.scene.result signal reading follows scene (c.scene.ensures ∙ at.scene_is) off old in
                subst (λ (l : List SignalReading). ReadsBelow board after signals l (i + 1)) (sym w.shown-is)
                (reads_kept board after signals shown i reading signal (c.loop-number.invariant.reads before after follows scene was at below) signal_at reading_here still);
            rest = λ k more. ap (λ (l : List SignalReading). slice_get l k) w.shown-is ∙ c.loop-number.invariant.rest k (omega (arith, more));
          }
    ]

pub returns-clause-text : goal.returns-clause-text
returns-clause-text c = λ before after follows scene was at.
    let end : c.loop-number.number ≡ min (length c.args.signals.now) (c.args.start + 32) = omega (arith, c.loop-number-test.false, c.loop-number.auto.number-end, c.requires.start, c.min-number-end.ensures) in
    ap (λ (l : List Line). string_bytes c.loop-number.text ++ text_of l) (sym (lines_end c.args.board.now before after c.args.signals.now c.loop-number.number (c.args.start + 32) end))
    ∙ c.loop-number.invariant.text before after follows scene was at

pub returns-clause-reads : goal.returns-clause-reads
returns-clause-reads c = λ before after follows scene was at below.
    reads_end c.args.board.now after c.args.signals.now c.loop-number.shown c.loop-number.number (c.args.start + 32) (omega (arith, c.loop-number-test.false, c.min-number-end.ensures))
    (c.loop-number.invariant.reads before after follows scene was at below)

pub returns-clause-rest : goal.returns-clause-rest
returns-clause-rest c = λ k behind. c.loop-number.invariant.rest k (omega (arith, behind, c.loop-number.auto.number-end, c.requires.start, c.min-number-end.ensures))
