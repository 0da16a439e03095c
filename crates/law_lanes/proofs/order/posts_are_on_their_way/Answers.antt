use Rattle.law_lanes.proofs.order.OnWayLemmas.{OnWay-run, OnWay-stands, OnWay-flies}
use Rattle.law_lanes.proofs.order.BurstLemmas.{OneClaimant-formed}
use Rattle.law_lanes.proofs.order.DirectLemmas.{direct_way}
use Rattle.law_lanes.proofs.order.posts_are_on_their_way.Goals as goal

pub returns : goal.returns
returns c =
    record {
      accepted = λ board h lane tree one run. OnWay-run board tree one h run lane;
      stands = λ board h lane tree one run. OnWay-stands board tree one h lane run;
      flying = λ board h lane tree one run. OnWay-flies board tree one h lane run;
      direct = λ board h o op master tree one is_op is_master posted run some. direct_way board o op master tree one is_op is_master posted h run some;
      well_formed = OneClaimant-formed;
    }
