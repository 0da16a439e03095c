use Rattle.history_model.specs.World.{both, world_of}
use Rattle.law_lanes.proofs.SlotsRunLemmas.{Slots-run_by, Slots-run}
use Rattle.law_lanes.proofs.OneItemLemmas.{HasOneItem-each, GoneHeld-each}
use Rattle.law_lanes.proofs.slots.Goals as goal

pub returns : goal.returns
returns c =
    record {
      counted = Slots-run;
      under_either_rule = Slots-run_by;
      one_item = λ board h lane run. HasOneItem-each (both (world_of board h) lane) (Slots-run board h lane run);
      dropped = λ board h lane run. GoneHeld-each (both (world_of board h) lane) (Slots-run board h lane run);
    }
