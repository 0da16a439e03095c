use Rattle.bus_segment.proofs.TurnLemmas.{does_none, does_further}
use Rattle.bus_segment.proofs.steps_go_on.Goals as goal

pub returns-clause-nothing : goal.returns-clause-nothing
returns-clause-nothing g c =
    let E = g.L.LaneEnd in
    λ board s ends events. does_none {End = g.row.L.Denot} E.had E.sent E.got E.kept E.paired board s ends events

pub returns-clause-further : goal.returns-clause-further
returns-clause-further g c =
    let E = g.L.LaneEnd in
    λ board old mid new ends between after events some all began goes_on one two. does_further {End = g.row.L.Denot} E.had E.sent E.got E.kept E.paired board old mid new ends between after events some all began goes_on one two
