use denote.Param.Send.{sendable}
use Rattle.std.proofs.Common.{refl, sym, subst}
use Rattle.lane_ends.proofs.ring.SendLemmas.{ring_end_send}
use Rattle.engine_runs.specs.First.{AreLinked, AreAboveOf}
use Rattle.engine_runs.proofs.Laws.{linked}
use Rattle.engine_runs.proofs.threads.FirstLemmas.{rounds_first}
use Rattle.engine_runs.proofs.threads.rounds.run_rings.Goals as goal

pub all_above-requires : goal.all_above-requires
all_above-requires g c = subst AreLinked (sym c.board.ensures.value) (linked c.args.tree.now c.board.ensures.valid _ _ c.in_ok-segments.ensures)

pub run_all-requires-send-L : goal.run_all-requires-send-L
run_all-requires-send-L g c κs within = search (sendable, ring_end_send)

pub run_all-requires-clause-rounds : goal.run_all-requires-clause-rounds
run_all-requires-clause-rounds g c κs within =
    let tree = c.args.tree.now in
    let first = c.in_ok-segments.ensures in
    let hangs = subst (λ b. AreAboveOf b c.in_ok-above.above.items) c.board.ensures.value c.in_ok-above.ensures in
    rounds_first tree c.board.ensures.valid _ _ first _ _ _ _ _ c.in_ok-ends.ensures.pairs tree _ c.in_ok-above.above.items c.as_slice.result.now
    refl c.in_ok-workers.ensures c.as_slice.ensures.value hangs
