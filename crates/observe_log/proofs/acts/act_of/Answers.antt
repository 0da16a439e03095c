use Rattle.std.proofs.Common.{rules, sym, subst}
use Rattle.std.specs.Prelude.{IfSome}
use Rattle.history_model.specs.declared.event.Event.{Event}
use Rattle.observe_log.specs.Acts.{IsOf}
use Rattle.observe_log.proofs.ActLemmas.{act_from}
use Rattle.observe_log.proofs.acts.act_of.Goals as goal

pub returns : goal.returns
returns c =
    let log = c.args.log.now in
    let board = c.args.board.now in
    let seen = c.args.seen.now in
    let act = act_from log board seen c.args.before c.in-Act.bus c.in-Act.by c.in-Act.op c.in-Act.step c.in-Act.place c.in_ok-request.request c.row_by.result c.is_lane.result c.phases_of.result.now c.goes_on.result
    (search rules) (c.is_initiator.ensures (search rules)) (search rules) (search rules) (c.row_by.ensures log (search rules)) (search rules) c.phases_of.ensures c.goes_on.ensures in
    subst (λ (e : Event). IfSome c.goes_on.result (λ shown. IsOf log board seen c.args.before e shown)) (sym c.in-Act.is) act
