use Rattle.std.proofs.Common.{sym, subst, Option}
use Rattle.history_model.specs.declared.event.Event.{Event}
use Rattle.history_model.specs.declared.event.Mark.{Mark}
use Rattle.history_model.specs.declared.why.Why.TheVariants.{NotPresented, AnsweredOtherwise, GetsRetry, NothingInFlight, MarkedOtherwise}
use Rattle.history_model.specs.declared.rule.Rule.TheVariants.{Tagged}
use Rattle.history_model.specs.Runs.{history_of}
use Rattle.machine_steps.specs.Verdicts.{cause_in, Holds, HoldsOfArrival}
use Rattle.machine_steps.proofs.VerdictLemmas.{of_act, of_arrival, named_exactly_by, allowed_exactly}
use Rattle.plain_replay.proofs.allowing.allowed.Goals as goal

pub returns-in-Act : goal.returns-in-Act
returns-in-Act c =
    let board = c.args.board.now in
    let h = history_of c.args.before.now in
    let e = c.args.event.now in
    let r = c.act_allowed.result in
    let P : Event → Type 0 = λ event. Holds board h event (cause_in r) in
    let holds : Holds board h e (cause_in r) =
    subst P (sym c.in-Act.is) (of_act Tagged board h c.in-Act.bus c.in-Act.by c.in-Act.op c.in-Act.step c.in-Act.place (cause_in r) c.act_allowed.ensures) in
    record {
      ok = allowed_exactly board h e r holds;
      not_presented = named_exactly_by Tagged board h e r NotPresented holds;
      answered_otherwise = named_exactly_by Tagged board h e r AnsweredOtherwise holds;
      retried = named_exactly_by Tagged board h e r GetsRetry holds;
      nothing_in_flight = named_exactly_by Tagged board h e r NothingInFlight holds;
      marked_otherwise = named_exactly_by Tagged board h e r MarkedOtherwise holds;
    }

pub returns-in-Arrive : goal.returns-in-Arrive
returns-in-Arrive c =
    let board = c.args.board.now in
    let h = history_of c.args.before.now in
    let e = c.args.event.now in
    let r = c.arrival_allowed.result in
    let P : Event → Type 0 = λ event. Holds board h event (cause_in r) in
    let Q : Option Mark → Type 0 = λ next. HoldsOfArrival next c.in-Arrive.mark (cause_in r) in
    let holds : Holds board h e (cause_in r) =
    subst P (sym c.in-Arrive.is) (of_arrival Tagged board h c.in-Arrive.lane c.in-Arrive.mark (cause_in r) (subst Q c.next_mark.ensures c.arrival_allowed.ensures)) in
    record {
      ok = allowed_exactly board h e r holds;
      not_presented = named_exactly_by Tagged board h e r NotPresented holds;
      answered_otherwise = named_exactly_by Tagged board h e r AnsweredOtherwise holds;
      retried = named_exactly_by Tagged board h e r GetsRetry holds;
      nothing_in_flight = named_exactly_by Tagged board h e r NothingInFlight holds;
      marked_otherwise = named_exactly_by Tagged board h e r MarkedOtherwise holds;
    }
