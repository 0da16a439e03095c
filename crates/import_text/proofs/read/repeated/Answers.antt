use Rattle.std.proofs.Common.{◌≡◌, true, false, take, sym, ◌∙◌}
use Rattle.std.specs.List.{list_any}
use Rattle.import_text.specs.Functions.{has_slot}
use Rattle.import_text.proofs.SlotLemmas.{was_there, was_new, seen_more, repeats, repeats_behind}
use Rattle.import_text.proofs.read.repeated.Goals as goal

pub returns-then-not-branch : goal.returns-then-not-branch
returns-then-not-branch c =
    let seen : list_any (has_slot c.function-item.result.slot) (take c.loop-function.function-index c.args.functions.now) ≡ true =
    sym (c.loop-function.invariant.seen c.function-item.result.slot) ∙ was_there _ _ c.in_ok-insert.ensures.added c.if-not-branch.true in
    sym (c.loop-function.invariant.none ∙ repeats c.args.functions.now c.loop-function.function-index c.function-item.result c.loop-function-test.true c.function-item.is seen)

pub loop-function-preserved : goal.loop-function-preserved
loop-function-preserved c =
    let new : list_any (has_slot c.function-item.result.slot) (take c.loop-function.function-index c.args.functions.now) ≡ false =
    sym (c.loop-function.invariant.seen c.function-item.result.slot) ∙ was_new _ _ c.in_ok-insert.ensures.added c.if-not-branch.false in
    record {
      none = c.loop-function.invariant.none ∙ repeats_behind c.args.functions.now c.loop-function.function-index c.function-item.result c.loop-function-test.true c.function-item.is new;
      seen = λ slot. seen_more slot c.args.functions.now c.loop-function.function-index c.function-item.result _ _ c.loop-function-test.true c.function-item.is (c.loop-function.invariant.seen slot) (c.in_ok-insert.ensures.updates.0 slot);
    }
