use Rattle.law_local.proofs.room.FullLemmas.{not_full}
use Rattle.law_local.proofs.room.full_lanes_take_no_more.Goals as goal

pub returns : goal.returns
returns c = not_full
