use Rattle.std.proofs.Common.{ℕ, ◌+◌, Bool, not, slice_get, sym, ap, subst, ◌∙◌}
use Rattle.audit_clocks.specs.Tracks.{track_at}
use Rattle.audit_text.specs.Found.{first_shown}
use Rattle.audit_text.specs.Search.{tells_of, shows_at, writes_at, AreRising, FallsAlong, FirstOn}
use Rattle.audit_text.proofs.SearchLemmas.{FirstOf, nothing_of, first_of_more, first_found_on, rising, falls_told, item_track}
use Rattle.audit_text.proofs.search.first_shown.Goals as goal

pub loop-track-init : goal.loop-track-init
loop-track-init c = nothing_of _ _

pub first_on-requires-clause-rises : goal.first_on-requires-clause-rises
first_on-requires-clause-rises c =
    let same = item_track c.tracks-track-items.result.now c.loop-track.track-index c.track-item.result c.places.result.now c.loop-track-test.true c.track-item.is c.places.ensures in
    subst AreRising (sym same) (rising (writes_at c.args.ledger.now c.args.reading.now) _ (c.tracks-track-items.ensures.each c.loop-track.track-index c.loop-track-test.true))

pub first_on-requires-clause-falls : goal.first_on-requires-clause-falls
first_on-requires-clause-falls c =
    let same = item_track c.tracks-track-items.result.now c.loop-track.track-index c.track-item.result c.places.result.now c.loop-track-test.true c.track-item.is c.places.ensures in
    subst (FallsAlong (λ at. not (tells_of c.args.ledger.now c.args.write (slice_get c.landed_before-writes.result.now at)))) (sym same)
    (falls_told c.args.ledger.now c.args.write (writes_at c.args.ledger.now c.args.reading.now) c.landed_before-writes.result.now c.args.reading.now.landed _ (c.tracks-track-items.ensures.each c.loop-track.track-index c.loop-track-test.true) c.landed_before-writes.ensures (c.requires _))

pub loop-track-preserved : goal.loop-track-preserved
loop-track-preserved c =
    let test : ℕ → Bool = λ at. shows_at c.args.ledger.now c.args.reading.now c.args.write (slice_get c.landed_before-writes.result.now at) in
    let same = item_track c.tracks-track-items.result.now c.loop-track.track-index c.track-item.result c.places.result.now c.loop-track-test.true c.track-item.is c.places.ensures in
    let here : FirstOn test (track_at c.tracks-track-items.result.now c.loop-track.track-index) c.first_on.result = subst (λ places. FirstOn test places c.first_on.result) same c.first_on.ensures in
    subst (FirstOf test c.tracks-track-items.result.now (c.loop-track.track-index + 1)) (sym c.earlier-first.ensures) (first_of_more test c.tracks-track-items.result.now c.loop-track.track-index c.loop-track.first c.first_on.result c.loop-track.invariant here)

pub returns : goal.returns
returns c =
    c.op_on.ensures
    ∙ first_found_on c.args.ledger.now c.args.reading.now c.args.write (writes_at c.args.ledger.now c.args.reading.now) c.landed_before-writes.result.now c.args.reading.now.landed c.tracks-track-items.result.now c.loop-track.track-index c.loop-track.first c.loop-track-test.false c.tracks-track-items.ensures c.landed_before-writes.ensures c.loop-track.invariant
    ∙ ap (λ xs. first_shown c.args.ledger.now c.args.reading.now c.args.write xs) c.landed_before-writes.ensures
