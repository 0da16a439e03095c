use Rattle.std.proofs.Common.{[], refl, sym, subst}
use Rattle.lane_ends.specs.plain.Plain.{PlainState}
use Rattle.engine_runs.specs.First.{AreLinked, AreAboveOf}
use Rattle.engine_runs.proofs.FirstLemmas.{linked, all_alike, steady_first}
use Rattle.engine_runs.proofs.steady.run_steady.Goals as goal

pub all_above-requires : goal.all_above-requires
all_above-requires c = subst AreLinked (sym c.board.ensures.value) (linked c.args.tree.now c.board.ensures.valid _ _ c.in_ok-segments.ensures)

pub run_all-requires-clause-steady : goal.run_all-requires-clause-steady
run_all-requires-clause-steady c =
    let fresh : PlainState = record { got = []; hand = []; sent = [] } in
    let tree = c.args.tree.now in
    let first = c.in_ok-segments.ensures in
    let hangs = subst (λ b. AreAboveOf b c.in_ok-above.above.items) c.board.ensures.value c.in_ok-above.ensures in
    steady_first tree c.board.ensures.valid _ _ first _ _ _ _ _ fresh refl (record { none_sent = refl; none_got = refl; none_kept = refl }) tt
    (all_alike tree c.board.ensures.valid _ _ first fresh c.in_ok-ends.ensures.ends) tree _ c.in_ok-above.above.items c.as_slice.result.now
    refl c.in_ok-workers.ensures c.as_slice.ensures.value hangs
