use Rattle.std.proofs.Common.{ℕ, ◌+◌, Bool, None, slice_get, sym, ap, subst, ◌∙◌}
use Rattle.audit_clocks.specs.Tracks.{track_at}
use Rattle.audit_text.specs.Found.{last_known}
use Rattle.audit_text.specs.Search.{is_known, writes_at, AreRising, FallsAlong, LastOn}
use Rattle.audit_text.proofs.SearchLemmas.{LastOf, nothing_of, last_of_more, last_found_on, rising, falls_known, item_track}
use Rattle.audit_text.proofs.search.last_known.Goals as goal

pub loop-track-init : goal.loop-track-init
loop-track-init c = nothing_of _ _

pub last_on-requires-clause-rises : goal.last_on-requires-clause-rises
last_on-requires-clause-rises c =
    let same = item_track c.tracks-track-items.result.now c.loop-track.track-index c.track-item.result c.places.result.now c.loop-track-test.true c.track-item.is c.places.ensures in
    subst AreRising (sym same) (rising (writes_at c.args.ledger.now c.args.reading.now) _ (c.tracks-track-items.ensures.each c.loop-track.track-index c.loop-track-test.true))

pub last_on-requires-clause-falls : goal.last_on-requires-clause-falls
last_on-requires-clause-falls c =
    let same = item_track c.tracks-track-items.result.now c.loop-track.track-index c.track-item.result c.places.result.now c.loop-track-test.true c.track-item.is c.places.ensures in
    subst (FallsAlong (λ at. is_known c.args.ledger.now c.args.read (slice_get c.landed_before-writes.result.now at))) (sym same)
    (falls_known c.args.ledger.now c.args.read (writes_at c.args.ledger.now c.args.reading.now) c.landed_before-writes.result.now c.args.reading.now.landed _ (c.tracks-track-items.ensures.each c.loop-track.track-index c.loop-track-test.true) c.landed_before-writes.ensures (c.requires _))

pub loop-track-preserved : goal.loop-track-preserved
loop-track-preserved c =
    let test : ℕ → Bool = λ at. is_known c.args.ledger.now c.args.read (slice_get c.landed_before-writes.result.now at) in
    let same = item_track c.tracks-track-items.result.now c.loop-track.track-index c.track-item.result c.places.result.now c.loop-track-test.true c.track-item.is c.places.ensures in
    let here : LastOn test (track_at c.tracks-track-items.result.now c.loop-track.track-index) c.last_on.result = subst (λ places. LastOn test places c.last_on.result) same c.last_on.ensures in
    subst (LastOf test c.tracks-track-items.result.now (c.loop-track.track-index + 1)) (sym c.later-last.ensures) (last_of_more test c.tracks-track-items.result.now c.loop-track.track-index c.loop-track.last c.last_on.result c.loop-track.invariant here)

pub returns : goal.returns
returns c =
    c.op_on.ensures
    ∙ last_found_on c.args.ledger.now c.args.read (writes_at c.args.ledger.now c.args.reading.now) c.landed_before-writes.result.now c.args.reading.now.landed c.tracks-track-items.result.now c.loop-track.track-index c.loop-track.last c.loop-track-test.false c.tracks-track-items.ensures c.landed_before-writes.ensures c.loop-track.invariant
    ∙ ap (λ xs. last_known c.args.ledger.now c.args.read None xs) c.landed_before-writes.ensures
