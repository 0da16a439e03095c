use Rattle.engine_phases.proofs.StandLemmas.{stands_for}
use Rattle.engine_phases.proofs.segments_stand.Goals as goal

pub returns : goal.returns
returns c = λ board s p received_at sent_at received put is_of ports stands. stands_for board s p received_at sent_at received put is_of ports stands
