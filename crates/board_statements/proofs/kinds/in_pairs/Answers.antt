use Rattle.std.proofs.Common.{arith, ◌∙◌}
use Rattle.std.proofs.lemmas.List.{length-set}
use Rattle.board_statements.proofs.KindLemmas.{pair_more, pairs_done}
use Rattle.board_statements.proofs.kinds.in_pairs.Goals as goal

pub loop-i-preserved : goal.loop-i-preserved
loop-i-preserved c =
    let size = c.requires.size in
    let long = c.loop-i.invariant.size in
    record {
      size = length-set _ _ _ ∙ long;
      pairs = pair_more c.args.word.now c.loop-i.bytes _ c.loop-i.i c.pair_at.result (omega arith) (omega arith) c.pair_at.ensures c.loop-i.invariant.pairs;
    }

pub returns : goal.returns
returns c = pairs_done c.args.word.now c.loop-i.bytes c.loop-i.i c.requires.size c.loop-i.invariant.size (let past = c.loop-i-test.false in omega arith) c.loop-i.invariant.pairs
