use denote.Param.Send.{sendable}
use Rattle.std.proofs.Common.{◌-◌, Bool, nat_lt, subst}
use Rattle.engine_phases.specs.ring.Rounds.{AllRan}
use Rattle.engine_runs.specs.Loop.{all_seen}
use Rattle.engine_runs.proofs.threads.RoundLemmas.{some_made, none_made, stamps_fit, all_room, ran_all, laid_ran, above_ran, rounds_settled}
use Rattle.engine_runs.proofs.threads.rounds.run_phase.Goals as goal

pub next_stamp-from-requires : goal.next_stamp-from-requires
next_stamp-from-requires g c =
    let E = g.L.LaneEnd in
    let board = c.args.board.now in
    let old = all_seen c.args.workers.now in
    let after = c.requires.rounds.after in
    let few = c.rounds_are_few.ensures in
    stamps_fit E.had E.sent E.got E.kept E.paired board old c.args.round.phases after (few.phases board old c.args.round.phases c.requires.valid after) (few.events board old c.args.round.phases c.requires.valid after)

pub work_all-requires : goal.work_all-requires
work_all-requires g c =
    let E = g.L.LaneEnd in
    let room = all_room E.had E.sent E.got E.kept E.paired c.args.board.now c.args.workers.now c.begin_all.new.workers c.begin_all.new.workers c.args.above.now c.args.round.phases c.next_stamp-from.result
    c.requires.rounds c.in_ok-begin_all.ensures c.requires.valid in
    (search sendable, (search sendable, (search sendable, room)))

pub settle_all-requires-clause-laid : goal.settle_all-requires-clause-laid
settle_all-requires-clause-laid g c =
    let E = g.L.LaneEnd in
    laid_ran E.had E.sent E.got E.kept E.paired c.args.board.now c.args.workers.now c.begin_all.new.workers c.work_all.new.workers c.args.above.now c.args.round.phases c.next_stamp-from.result
    c.requires.rounds c.in_ok-begin_all.ensures c.work_all.ensures

pub settle_all-requires-clause-above : goal.settle_all-requires-clause-above
settle_all-requires-clause-above g c =
    let E = g.L.LaneEnd in
    above_ran E.had E.sent E.got E.kept E.paired c.args.board.now c.args.workers.now c.begin_all.new.workers c.work_all.new.workers c.args.above.now c.args.round.phases c.next_stamp-from.result
    c.requires.rounds c.in_ok-begin_all.ensures c.work_all.ensures

pub settle_all-requires-clause-may : goal.settle_all-requires-clause-may
settle_all-requires-clause-may g c =
    let E = g.L.LaneEnd in
    let board = c.args.board.now in
    let old = all_seen c.args.workers.now in
    let new = all_seen c.work_all.new.workers in
    let ran = ran_all E.had E.sent E.got E.kept E.paired board c.args.workers.now c.begin_all.new.workers c.work_all.new.workers c.args.above.now c.args.round.phases c.next_stamp-from.result
    c.requires.rounds c.in_ok-begin_all.ensures c.work_all.ensures c.recorded-before.result c.recorded.result c.next_stamp-from.ensures c.recorded-before.ensures c.recorded.ensures
    (c.rounds_are_few.ensures.events board old c.args.round.phases c.requires.valid c.requires.rounds.after) in
    c.rounds_may_settle.ensures board old new c.args.round.phases (nat_lt 0 (c.recorded.result - c.recorded-before.result)) c.requires.valid c.requires.rounds.after ran

pub returns-clause-busy : goal.returns-clause-busy
returns-clause-busy g c =
    let E = g.L.LaneEnd in
    let board = c.args.board.now in
    let old = all_seen c.args.workers.now in
    let new = all_seen c.work_all.new.workers in
    let settled = all_seen c.settle_all.new.workers in
    let busy : Bool = nat_lt 0 (c.recorded.result - c.recorded-before.result) in
    let ran = ran_all E.had E.sent E.got E.kept E.paired board c.args.workers.now c.begin_all.new.workers c.work_all.new.workers c.args.above.now c.args.round.phases c.next_stamp-from.result
    c.requires.rounds c.in_ok-begin_all.ensures c.work_all.ensures c.recorded-before.result c.recorded.result c.next_stamp-from.ensures c.recorded-before.ensures c.recorded.ensures
    (c.rounds_are_few.ensures.events board old c.args.round.phases c.requires.valid c.requires.rounds.after) in
    let after = c.requires.rounds.after in
    let none = c.rounds_stop_no_worker.ensures board old new settled c.args.round.phases busy c.requires.valid after ran c.settle_all.ensures in
    λ some.
    let on = some_made c.recorded-before.result c.recorded.result c.saturating_sub-events.result c.saturating_sub-events.ensures some in
    let ran_on = subst (λ (b : Bool). AllRan E.had E.sent E.got E.kept E.paired board c.args.round.phases old new b) on ran in
    let next = c.rounds_go_on.ensures board old new settled c.args.round.phases c.requires.valid after ran_on c.settle_all.ensures in
    rounds_settled E.had E.sent E.got E.kept E.paired board c.args.workers.now c.begin_all.new.workers c.work_all.new.workers c.args.above.now c.args.round.phases c.next_stamp-from.result
    c.requires.rounds c.in_ok-begin_all.ensures c.work_all.ensures settled none c.settle_all.ensures next

pub returns-clause-idle : goal.returns-clause-idle
returns-clause-idle g c =
    let E = g.L.LaneEnd in
    let board = c.args.board.now in
    let old = all_seen c.args.workers.now in
    let new = all_seen c.work_all.new.workers in
    let settled = all_seen c.settle_all.new.workers in
    let busy : Bool = nat_lt 0 (c.recorded.result - c.recorded-before.result) in
    let ran = ran_all E.had E.sent E.got E.kept E.paired board c.args.workers.now c.begin_all.new.workers c.work_all.new.workers c.args.above.now c.args.round.phases c.next_stamp-from.result
    c.requires.rounds c.in_ok-begin_all.ensures c.work_all.ensures c.recorded-before.result c.recorded.result c.next_stamp-from.ensures c.recorded-before.ensures c.recorded.ensures
    (c.rounds_are_few.ensures.events board old c.args.round.phases c.requires.valid c.requires.rounds.after) in
    λ none.
    let off = none_made c.recorded-before.result c.recorded.result c.saturating_sub-events.result c.saturating_sub-events.ensures none in
    let ran_off = subst (λ (b : Bool). AllRan E.had E.sent E.got E.kept E.paired board c.args.round.phases old new b) off ran in
    c.idle_rounds_end_the_run.ensures board old new settled c.args.round.phases c.requires.valid c.requires.rounds.after ran_off c.settle_all.ensures
