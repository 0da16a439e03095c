use Rattle.board_model.specs.declared.bridge.Place.TheVariants.{Target}
use Rattle.history_model.specs.declared.event.By.TheVariants.{Master}
use Rattle.history_model.specs.declared.event.Step.TheVariants.{Land}
use Rattle.history_model.specs.declared.event.Event.{Event}
use Rattle.history_model.specs.declared.event.Event.TheVariants.{Act}
use Rattle.draw_told.proofs.ToldLemmas.{ends_more, touches_more, ends_all, touches_all}
use Rattle.draw_told.proofs.told.note_all.Goals as goal

-- one event more
pub loop-before-preserved : goal.loop-before-preserved
loop-before-preserved c =
    let events = c.args.events.now in
    let i = c.loop-before.before in
    let d : Event = Act 0 Master (record { master = 0; index = 0; attempt = 0 }) Land (Target 0) in
    record {
      ends = ends_more events i d c.loop-before.ends c.happen.new.self c.loop-before-test.true c.loop-before.invariant.ends c.in_ok-happen.ensures;
      landed = touches_more c.args.board.now events i d c.loop-before.landed c.happen-in-loop-before.new.self c.loop-before-test.true c.requires.few c.loop-before.invariant.landed c.in_ok-happen-2.ensures;
    }

pub returns : goal.returns
returns c = record {
  ends = ends_all c.args.events.now c.loop-before.before c.loop-before.ends c.loop-before-test.false c.loop-before.invariant.ends;
  landed = touches_all c.args.board.now c.args.events.now c.loop-before.before c.loop-before.landed c.loop-before-test.false c.loop-before.invariant.landed;
}
