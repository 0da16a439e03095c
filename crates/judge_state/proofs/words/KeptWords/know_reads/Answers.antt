use Rattle.std.proofs.Common.{List, take, subst, sym}
use Rattle.std.specs.List.{AllByRecursion}
use Rattle.std.proofs.lemmas.List.{take_more}
use Rattle.list_facts.proofs.EachLemmas.{Each-push, Each-weaker}
use Rattle.board_model.specs.declared.op.Op.{Op}
use Rattle.judge_state.specs.Words.{KnowsRead}
use Rattle.judge_state.proofs.words.KeptWords.know_reads.Goals as goal

pub loop-op-preserved : goal.loop-op-preserved
loop-op-preserved c =
    let old = c.loop-op.invariant in
    let new = c.in_ok-know_read.ensures in
    let P = λ (op : Op). KnowsRead c.args.board.now c.args.bus c.loop-op.self.places op in
    let Q = λ (op : Op). KnowsRead c.args.board.now c.args.bus c.know_read.new.self.places op in
    let so_far = take c.loop-op.op-index c.args.ops.now in
    let more = take_more c.args.ops.now c.loop-op.op-index c.op-item.result c.loop-op-test.true in (
      new.known,
      λ word there. new.stays word (old.1 word there),
      subst (λ (ops : List Op). AllByRecursion Q ops) (sym more)
          (Each-push Q so_far _ (Each-weaker P Q (λ op knows target reads owner. new.stays _ (knows target reads owner)) so_far old.2) (subst Q c.op-item.is new.reads)),
    )
