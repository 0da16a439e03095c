use Rattle.law_bound.proofs.stages.CountLemmas.{delayed_sum}
use Rattle.law_bound.proofs.stages.stages_and_left.Goals as goal

pub returns : goal.returns
returns c = λ board h o op master valid run is_op is_master. delayed_sum board valid h run o op master is_op is_master
