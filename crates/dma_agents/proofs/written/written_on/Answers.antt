use Rattle.std.proofs.Common.{subst}
use Rattle.dma_agents.specs.Written.{masters_weigh, Noted}
use Rattle.dma_agents.proofs.WrittenLemmas.{all_noted}
use Rattle.dma_agents.proofs.written.written_on.Goals as goal

pub returns : goal.returns
returns c =
    let noted : Noted (masters_weigh c.args.board.now.masters) c.new-written.result c.note_masters.new.written =
    subst (λ masters. Noted (masters_weigh masters) c.new-written.result c.note_masters.new.written) c.as_slice.ensures c.in_ok-note_masters.ensures in
    all_noted c.args.board.now.masters c.new-written.result c.note_masters.new.written c.new-written.ensures.weights c.new-written.ensures.parts noted
