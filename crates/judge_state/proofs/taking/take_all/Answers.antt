use Rattle.std.proofs.Common.{◌≡◌, ℕ, ◌+◌, ◌-◌, List, take, sym, subst, arith}
use Rattle.std.proofs.lemmas.List.{take_all}
use Rattle.history_model.specs.declared.event.Event.{Event}
use Rattle.history_model.specs.declared.rule.Rule.TheVariants.{Tagged}
use Rattle.history_model.specs.Runs.{history_of}
use Rattle.judge_lanes.proofs.RoomLemmas.{history_more}
use Rattle.judge_state.specs.State.{KeptState}
use Rattle.judge_state.specs.Stands.{StandsFor}
use Rattle.judge_state.proofs.RefusedLemmas.{refused_by}
use Rattle.judge_state.proofs.taking.take_all.Goals as goal

pub step-requires : goal.step-requires
step-requires c = (history_of (take c.loop-index.index c.args.events.now), c.loop-index.invariant)

pub loop-index-preserved : goal.loop-index-preserved
loop-index-preserved c =
    let next = c.in_default.ensures.goes_on (history_of (take c.loop-index.index c.args.events.now)) c.loop-index.invariant in
    let more = history_more c.args.events.now c.loop-index.index _ c.loop-index-test.true in
    subst (λ (h : List Event). StandsFor c.args.tree.now h c.step.new.self) (sym more) next

pub returns-in-Err-clause-refused : goal.returns-in-Err-clause-refused
returns-in-Err-clause-refused c =
    let stands = c.loop-index.invariant in
    let cause = c.in-Err.ensures.verdict (history_of (take c.loop-index.index c.args.events.now)) stands in
    refused_by Tagged c.args.tree.now c.args.events.now c.loop-index.index _ c.in-Err.why c.loop-index-test.true stands.run cause

pub returns-in-Err-clause-stands : goal.returns-in-Err-clause-stands
returns-in-Err-clause-stands c =
    let before : c.loop-index.index + 1 - 1 ≡ c.loop-index.index = omega arith in
    let stands = subst (λ (n : ℕ). StandsFor c.args.tree.now (history_of (take n c.args.events.now)) c.loop-index.kept) (sym before) c.loop-index.invariant in
    subst (λ (k : KeptState). StandsFor c.args.tree.now (history_of (take (c.loop-index.index + 1 - 1) c.args.events.now)) k) (sym c.in-Err.ensures.refused) stands

pub returns-clause-run : goal.returns-clause-run
returns-clause-run c =
    subst (λ (events : List Event). StandsFor c.args.tree.now (history_of events) c.loop-index.kept)
    (take_all c.loop-index.index c.args.events.now (omega arith)) c.loop-index.invariant
