use Rattle.law_lanes.proofs.order.BurstLemmas.{AbortWhole-formed}
use Rattle.law_lanes.proofs.order.PartsLemmas.{PartsAt-run}
use Rattle.law_lanes.proofs.order.RestLemmas.{Rest-run, Some-formed}
use Rattle.law_lanes.proofs.order.parts_wait_for_the_rest.Goals as goal

pub returns : goal.returns
returns c =
    record {
      waits = λ board h o op master one alike is_op is_master posted run some. PartsAt-run board o op master one alike is_op is_master posted h run some;
      fewer = λ board h o op is_op run some. Rest-run board o op is_op h run some;
      some_phase = Some-formed;
      well_formed = AbortWhole-formed;
    }
