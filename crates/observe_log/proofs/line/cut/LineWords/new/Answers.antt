use Rattle.observe_log.proofs.PlainLemmas.{front_stands}
use Rattle.observe_log.proofs.line.cut.LineWords.new.Goals as goal

pub invariant_of-result : goal.invariant_of-result
invariant_of-result c =
    front_stands c.args.line.now c.split_at.result.0.now c.length_before_comment.result c.length_before_comment.ensures.value c.split_at.ensures.front
