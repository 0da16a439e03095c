use Rattle.std.proofs.Common.{◌≡◌, ◌∙◌, ◌==◌, not, nat_lt, max, ℕ, Bool, true, false, sym, ap, subst, arith}
use Rattle.std.proofs.lemmas.Bool.{and_parts, eqb-true, ltb-true, ltb-false}
use Rattle.bus_core.specs.Bus.{BusView}
use Rattle.bus_segment.specs.turns.Works.{GivesOnlyRetries}
use Rattle.engine_runs.proofs.IdleLemmas.{not_true, room_left, begun_may, has_worked}
use Rattle.engine_runs.proofs.phase.work.Goals as goal

pub turn_again-count-requires-clause-may : goal.turn_again-count-requires-clause-may
turn_again-count-requires-clause-may g c =
    let E = g.L.LaneEnd in
    let r = c.reserve.ensures in
    let b = c.begin.ensures in
    begun_may E.had E.sent E.got E.kept E.paired c.args.board.now c.args.phase c.args.worker.now c.begin.new.self c.begin.new.self (b.bus ∙ r.bus) (b.stamp ∙ ap (λ (n : ℕ). max n c.args.phase) r.stamp) (b.stopped ∙ r.stopped) (b.ends ∙ r.ends) (b.events ∙ r.events)
    c.requires.valid c.requires.ready (room_left c.reserve.new.self c.begin.new.self b.spare b.events c.in_ok-reserve.ensures.spare)

pub turn_again-count-requires-clause-idle : goal.turn_again-count-requires-clause-idle
turn_again-count-requires-clause-idle g c = λ on. subst (λ (s : BusView). GivesOnlyRetries c.args.board.now s) (sym (c.begin.ensures.bus ∙ c.reserve.ensures.bus)) (c.requires.marked on)

pub returns-clause-worked : goal.returns-clause-worked
returns-clause-worked g c =
    let E = g.L.LaneEnd in
    let r = c.reserve.ensures in
    let b = c.begin.ensures in
    let count : ℕ = c.turn_again-count.result in
    has_worked E.had E.sent E.got E.kept E.paired c.args.board.now c.args.phase c.args.worker.now c.begin.new.self c.turn_again-count.new.self (b.bus ∙ r.bus) (b.stamp ∙ ap (λ (n : ℕ). max n c.args.phase) r.stamp) (b.stopped ∙ r.stopped) (b.ends ∙ r.ends) (b.events ∙ r.events)
    count (nat_lt 0 count) c.turn_again-count.ensures.turn (λ off. let least = ltb-false 0 count off in omega (arith, least)) (λ on. ltb-true 0 count on)

pub returns-clause-marked : goal.returns-clause-marked
returns-clause-marked g c = λ on.
    let both = and_parts (c.turn_again-count.result == 0) (not c.stopped.result) (sym c.is_idle.ensures ∙ on) in
    c.turn_again-count.ensures.idle (eqb-true c.turn_again-count.result 0 both.0) (sym c.stopped.ensures ∙ not_true c.stopped.result both.1)
