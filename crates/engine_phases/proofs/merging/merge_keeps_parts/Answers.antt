use Rattle.engine_phases.proofs.merging.TurnedLemmas.{merged_holds}
use Rattle.engine_phases.proofs.merging.OwnLemmas.{own_merged}
use Rattle.engine_phases.proofs.merging.merge_keeps_parts.Goals as goal

pub returns : goal.returns
returns c = record { held = merged_holds; own = own_merged }
