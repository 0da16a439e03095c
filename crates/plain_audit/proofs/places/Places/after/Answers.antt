use Rattle.std.proofs.Common.{ap, ◌∙◌}
use Rattle.plain_audit.specs.declared.places.Places.{Places}
use Rattle.plain_audit.proofs.TableLemmas.{places_empty, places_step, places_end}
use Rattle.plain_audit.proofs.places.Places.after.Goals as goal

pub loop-index-init : goal.loop-index-init
loop-index-init c =
    let new = c.new-places.ensures in
    (ap (λ (p : Places). p.write) new, places_empty c.args.board.now c.args.write c.new-places.result.since (ap (λ (p : Places). p.since) new))

-- one more event
pub loop-index-preserved : goal.loop-index-preserved
loop-index-preserved c =
    let old = c.loop-index.invariant in (
      c.learn.ensures.write ∙ old.0,
      places_step c.args.board.now c.requires.valid c.args.write c.loop-index.places.write c.args.events.now c.loop-index.index _ c.loop-index.places.since c.learn.new.self.since
          c.requires.run c.loop-index-test.true old.0 old.1 c.learn.ensures.places,
    )

pub returns-clause-places : goal.returns-clause-places
returns-clause-places c = places_end c.args.board.now c.args.write c.args.events.now c.loop-index.index c.loop-index.places.since c.loop-index-test.false c.loop-index.invariant.1
