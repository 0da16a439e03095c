use Rattle.std.proofs.Common.{◌<◌, ◌+◌, length, take, refl, sym, subst, ◌∙◌}
use Rattle.board_model.specs.declared.bridge.Place.TheVariants.{Target}
use Rattle.history_model.specs.declared.event.By.TheVariants.{Master}
use Rattle.history_model.specs.declared.event.Step.TheVariants.{Land}
use Rattle.history_model.specs.declared.event.Event.{Event}
use Rattle.history_model.specs.declared.event.Event.TheVariants.{Act}
use Rattle.history_model.specs.Runs.{history_of}
use Rattle.draw_journeys.specs.Journeys.{ShowsRun}
use Rattle.draw_journeys.specs.Steps.{journeys_in}
use Rattle.draw_journeys.proofs.FollowLemmas.{allowed_next, so_far_next, so_far_is, so_far_all}
use Rattle.draw_journeys.proofs.follow.journeys_of.Goals as goal

pub loop-before-init : goal.loop-before-init
loop-before-init c = record { so = record { stands = c.in_ok-kept.ensures; journeys_are = c.new-travel.ensures.none }; listed = c.new-travel.ensures.listed }

pub happen-requires-clause-stands : goal.happen-requires-clause-stands
happen-requires-clause-stands c = (history_of (take c.loop-before.before c.args.events.now), c.loop-before.invariant.so.stands)

pub loop-before-preserved : goal.loop-before-preserved
loop-before-preserved c =
    let tree = c.args.tree.now in
    let events = c.args.events.now in
    let i = c.loop-before.before in
    let was = c.loop-before.travel in
    let is = c.happen.new in
    let so = c.loop-before.invariant.so in
    let d : Event = Act 0 Master (record { master = 0; index = 0; attempt = 0 }) Land (Target 0) in
    let within : i < length events = c.loop-before-test.true in
    let allowed = allowed_next tree events i d c.requires within in
    let done = c.in_ok-happen.ensures in
    let h = history_of (take i events) in
    record {
      so = so_far_next tree events i (i + 1) d was.journeys.items is.travel.journeys.items c.loop-before.kept is.kept within refl so (done.now h so.stands allowed) (done.stands h so.stands allowed);
      listed = done.listed;
    }

pub returns-clause-exact : goal.returns-clause-exact
unfolding journeys_in
returns-clause-exact c =
    c.from_vec.ensures ∙ so_far_is c.args.tree.now c.args.events.now c.loop-before.before c.loop-before.travel.journeys.items c.loop-before.kept c.loop-before-test.false c.loop-before.invariant.so

pub returns-clause-shows : goal.returns-clause-shows
returns-clause-shows c =
    let tree = c.args.tree.now in
    let events = c.args.events.now in
    subst (ShowsRun tree events) (sym c.from_vec.ensures)
    (so_far_all tree events c.loop-before.before c.loop-before.travel.journeys.items c.loop-before.kept c.loop-before-test.false c.loop-before.invariant.so)
