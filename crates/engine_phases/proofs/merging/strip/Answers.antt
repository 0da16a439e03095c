use Rattle.std.proofs.Common.{List, map, reverse, ap, ◌∙◌}
use Rattle.history_model.specs.declared.event.Stamped.{Stamped}
use Rattle.engine_phases.proofs.merging.TurnedLemmas.{turned_events, take_all}
use Rattle.engine_phases.proofs.merging.strip.Goals as goal

pub returns-clause-history : goal.returns-clause-history
returns-clause-history c =
    let sorted : List Stamped = c.args.sorted.now in
    let all = take_all c.loop-stamped.stamped-index sorted c.loop-stamped-test.false in
    let events = c.from_vec.ensures ∙ (c.loop-stamped.invariant ∙ ap (map (λ (e : Stamped). e.event)) all) in
    ap reverse events ∙ turned_events sorted
