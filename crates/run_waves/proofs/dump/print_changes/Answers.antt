use Rattle.std.proofs.Common.{◌≡◌, ℕ, ◌+◌, ◌*◌, ◌++◌, false, get_or, List, sym, ap, subst, ◌∙◌, arith, string_bytes, slice_get}
use Rattle.std.proofs.lemmas.Option.{slice_get-get_or}
use Rattle.board_printer.specs.Lines.{Line, text_of}
use Rattle.run_waves.specs.declared.blocks.BlockSpan.{BlockSpan}
use Rattle.run_waves.specs.declared.reading.SignalReading.{SignalReading}
use Rattle.run_waves.specs.declared.touched.Touch.{Touch}
use Rattle.run_waves.specs.Scenes.{ReadsBelow}
use Rattle.run_waves.specs.Touched.{touch_of}
use Rattle.run_waves.specs.Blocks.{meets, lines_from}
use Rattle.run_waves.proofs.BlockLemmas.{passed_lines, reads_rest, passed_reads}
use Rattle.run_waves.proofs.dump.print_changes.Goals as goal
use Rattle.run_waves.proofs.dump.print_changes.Goals.{then-meets+in_ok-print_block, else-meets}

pub loop-number-preserved : goal.loop-number-preserved
loop-number-preserved c =
    let n = c.loop-number.number in
    let board = c.args.board.now in
    let blocks = c.args.blocks.now in
    let signals = blocks.signals.now in
    let first = c.args.shown.now in
    let d : BlockSpan = record { low = 0; high = 0 } in
    let span : BlockSpan = get_or blocks.spans.now n d in
    let span_at = slice_get-get_or blocks.spans.now n d c.loop-number-test.true in
    let next : n * 32 + 32 ≡ (n + 1) * 32 = omega arith in
    elim c.if-meets.branch [
      | then-meets+in_ok-print_block w ↦
          record {
            text = λ before after follows scene was at.
                let to_come = reads_rest board before signals first c.loop-number.shown (n * 32) was c.loop-number.invariant.rest in
                ap (λ t. string_bytes t ++ text_of (lines_from board before after ((n + 1) * 32) signals)) w.text-is
                ∙ ap (λ (m : ℕ). string_bytes w.print_block.new.text ++ text_of (lines_from board before after m signals)) (sym next)
                ∙ w.in_ok-print_block.ensures.text before after follows scene to_come at
                ∙ c.loop-number.invariant.text before after follows scene was at;
            reads = λ before after follows scene was at.
                let to_come = reads_rest board before signals first c.loop-number.shown (n * 32) was c.loop-number.invariant.rest in
                subst (λ (l : List SignalReading). ReadsBelow board after signals l ((n + 1) * 32)) (sym w.shown-is)
                (subst (λ (m : ℕ). ReadsBelow board after signals w.print_block.new.shown m) next
                (w.in_ok-print_block.ensures.reads before after follows scene to_come at (c.loop-number.invariant.reads before after follows scene was at)));
            rest = λ k more.
                ap (λ (l : List SignalReading). slice_get l k) w.shown-is ∙ w.in_ok-print_block.ensures.rest k (omega (arith, more)) ∙ c.loop-number.invariant.rest k (omega (arith, more));
          }
      | else-meets w ↦
          let off : meets span (touch_of board c.args.passed.now.from c.scene.result) ≡ false =
          ap (λ (t : Touch). meets span t) (sym c.of-touch.ensures) ∙ sym c.meets.ensures ∙ w.if-meets.false in
          let within = c.requires.spans.each n span span_at in
          record {
            text = λ before after follows scene was at.
                let lines = passed_lines board before after c.args.passed.now.from c.scene.result signals (n * 32) span follows scene (c.scene.ensures ∙ at.scene_is) within off in
                ap (λ t. string_bytes t ++ text_of (lines_from board before after ((n + 1) * 32) signals)) w.text-is
                ∙ ap (λ (m : ℕ). string_bytes c.loop-number.text ++ text_of (lines_from board before after m signals)) (sym next)
                ∙ ap (λ (l : List Line). string_bytes c.loop-number.text ++ text_of l) (sym lines)
                ∙ c.loop-number.invariant.text before after follows scene was at;
            reads = λ before after follows scene was at.
                let to_come = reads_rest board before signals first c.loop-number.shown (n * 32) was c.loop-number.invariant.rest in
                subst (λ (l : List SignalReading). ReadsBelow board after signals l ((n + 1) * 32)) (sym w.shown-is)
                (subst (λ (m : ℕ). ReadsBelow board after signals c.loop-number.shown m) next
                (passed_reads board before after c.args.passed.now.from c.scene.result signals c.loop-number.shown (n * 32) span follows scene (c.scene.ensures ∙ at.scene_is) within off to_come
                (c.loop-number.invariant.reads before after follows scene was at)));
            rest = λ k more. ap (λ (l : List SignalReading). slice_get l k) w.shown-is ∙ c.loop-number.invariant.rest k (omega (arith, more));
          }
    ]
