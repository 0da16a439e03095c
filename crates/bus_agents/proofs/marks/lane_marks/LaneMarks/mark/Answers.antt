use Rattle.bus_agents.proofs.marks.MarkLemmas.{ask_marked, done_marked}
use Rattle.bus_agents.proofs.marks.lane_marks.LaneMarks.mark.Goals as goal
use Rattle.history_model.specs.declared.item.Carried.{Carried}
use Rattle.std.proofs.Common.{sym, subst}
use Rattle.bus_agents.specs.marks.Marks.{MarksArrival}

pub returns-in-Ask-clause-arrival : goal.returns-in-Ask-clause-arrival
returns-in-Ask-clause-arrival c =
    subst (λ (item : Carried). MarksArrival c.args.self.now item c.ask.result c.ask.new.self) (sym c.in-Ask.is)
    (ask_marked c.args.self.now c.ask.result c.ask.ensures.mark c.in-Ask.op c.in-Ask.slot c.ask.new.self c.ask.ensures.counted)

pub returns-in-Done-clause-arrival : goal.returns-in-Done-clause-arrival
returns-in-Done-clause-arrival c =
    subst (λ (item : Carried). MarksArrival c.args.self.now item c.done.result c.done.new.self) (sym c.in-Done.is)
    (done_marked c.args.self.now c.done.result c.done.ensures.mark c.in-Done.op c.in-Done.slot c.in-Done.outcome c.done.new.self c.done.ensures.counted)
