use Rattle.traffic_generator.proofs.LoopLemmas.{longer, words_kept, words_drawn_kept}
use Rattle.traffic_generator.proofs.draws.Draws.words.Goals as goal

pub loop-place-preserved : goal.loop-place-preserved
loop-place-preserved c = record {
  many = longer _ _ _ _ c.push.ensures c.loop-place.invariant.many;
  value = words_kept _ _ _ _ _ _ _ _ c.loop-place-test.true c.push.ensures c.word.ensures.value c.word.ensures.state c.loop-place.invariant.value;
  state = words_drawn_kept _ _ _ _ _ c.loop-place-test.true c.word.ensures.state c.loop-place.invariant.state;
}
