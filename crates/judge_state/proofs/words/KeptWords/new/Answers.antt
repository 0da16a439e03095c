use Rattle.std.proofs.Common.{◌<◌, length, get_or, subst}
use Rattle.judge_state.specs.Words.{KnowsProgram}
use Rattle.judge_state.proofs.KnownLemmas.{programs_more}
use Rattle.judge_state.proofs.words.KeptWords.new.Goals as goal

pub loop-master-preserved : goal.loop-master-preserved
loop-master-preserved c =
    let board = c.args.board.now in
    let i = c.loop-master.master-index in
    let new = c.in_ok-know_reads.ensures in
    let within : i < length board.masters = rw c.as_slice-master-items.ensures at c.loop-master-test.true in
    let item = rw c.as_slice-master-items.ensures at c.master-item.is in
    let here : KnowsProgram board c.know_reads.new.self.places (get_or board.masters i c.master-item.result) = subst (KnowsProgram board c.know_reads.new.self.places) item (rw c.as_slice.ensures at new.reads) in
    record {
      known = new.known;
      reads = programs_more board c.loop-master.words.places c.know_reads.new.self.places board.masters i c.master-item.result within new.stays c.loop-master.invariant.reads here;
    }
