use Rattle.untagged_check.specs.Judged.{reads_of}
use Rattle.untagged_check.proofs.FoundLemmas.{list_next, list_whole}
use Rattle.untagged_check.proofs.stale.list_each.Goals as goal

pub loop-place-preserved : goal.loop-place-preserved
loop-place-preserved c =
    list_next c.args.tree.now c.board.result.now c.args.course.now.events.now c.args.course.now.gots.now c.loop-place.place _ c.args.index.now c.loop-place.knowers c.happen.new.self (reads_of c.loop-place.stale.items) (reads_of c.add_ended.new.stale.items) c.got_at-got.result
    c.board.ensures.value c.loop-place-test.true c.requires.run c.requires.gots c.requires.index c.got_at-got.ensures c.in_ok-happen.ensures c.in_ok-add_ended.ensures c.loop-place.invariant

pub returns : goal.returns
returns c = list_whole c.args.tree.now c.args.course.now.events.now c.loop-place.place (reads_of c.loop-place.stale.items) c.loop-place-test.false c.loop-place.invariant.0
