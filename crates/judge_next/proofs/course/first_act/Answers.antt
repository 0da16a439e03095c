use Rattle.std.proofs.Common.{◌≡◌, ℕ, Option, Some, None, sym, ◌∙◌, arith}
use Rattle.history_model.specs.declared.event.Event.{Event}
use Rattle.law_lanes.proofs.progress.NextFirstLemmas.{first_more, bus_found, bus_none}
use Rattle.judge_next.specs.Now.{act_on_now}
use Rattle.judge_next.proofs.QuietLemmas.{none_below}
use Rattle.judge_next.proofs.course.first_act.Goals as goal

-- nothing on the buses below that with which the look begins
pub loop-bus-init : goal.loop-bus-init
loop-bus-init c =
    let gives : ℕ → Option Event = act_on_now c.args.board.now c.args.kept.now in
    (none_below gives c.args.quiet.now.from (λ bus less. c.requires.known bus (c.requires.flags.below bus less)), c.requires.flags, c.requires.known)

-- nothing on one bus more
pub loop-bus-preserved : goal.loop-bus-preserved
loop-bus-preserved c =
    let gives : ℕ → Option Event = act_on_now c.args.board.now c.args.kept.now in
    let here : gives c.loop-bus.bus ≡ None = sym c.act_at.ensures.value ∙ c.in_default.is in
    (first_more gives c.loop-bus.bus c.loop-bus.invariant.0 here, c.act_at.ensures.flags, c.act_at.ensures.known)

pub returns-in-Some-clause-value : goal.returns-in-Some-clause-value
returns-in-Some-clause-value c =
    let gives : ℕ → Option Event = act_on_now c.args.board.now c.args.kept.now in
    let here : gives c.loop-bus.bus ≡ Some c.in-Some.event = sym c.act_at.ensures.value ∙ c.in-Some.is in
    bus_found gives c.loop-bus.bus c.in-Some.event c.loop-bus.invariant.0 here (omega arith)

pub returns-clause-value : goal.returns-clause-value
returns-clause-value c =
    let gives : ℕ → Option Event = act_on_now c.args.board.now c.args.kept.now in
    bus_none gives c.loop-bus.bus c.loop-bus.invariant.0 (omega (arith, c.requires.flags.few))

pub act_at-requires-clause-formed : goal.act_at-requires-clause-formed
act_at-requires-clause-formed c = c.requires.formed

pub act_at-requires-clause-sites : goal.act_at-requires-clause-sites
act_at-requires-clause-sites c = c.requires.sites

pub act_at-requires-clause-lines : goal.act_at-requires-clause-lines
act_at-requires-clause-lines c = c.requires.lines

pub act_at-requires-clause-flags : goal.act_at-requires-clause-flags
act_at-requires-clause-flags c = c.loop-bus.invariant.1

pub act_at-requires-clause-known : goal.act_at-requires-clause-known
act_at-requires-clause-known c = c.loop-bus.invariant.2

pub returns-in-Some-clause-flags : goal.returns-in-Some-clause-flags
returns-in-Some-clause-flags c = c.act_at.ensures.flags

pub returns-in-Some-clause-known : goal.returns-in-Some-clause-known
returns-in-Some-clause-known c = c.act_at.ensures.known

pub returns-clause-flags : goal.returns-clause-flags
returns-clause-flags c = c.loop-bus.invariant.1

pub returns-clause-known : goal.returns-clause-known
returns-clause-known c = c.loop-bus.invariant.2
