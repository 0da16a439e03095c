use Rattle.std.proofs.Common.{◌≡◌, ℕ, ◌+◌, ◌<◌, length, get_or, max, Some, refl, sym, subst, arith}
use Rattle.std.specs.List.{slice_get}
use Rattle.std.proofs.Math.ListN.{set}
use Rattle.std.proofs.lemmas.Option.{slice_get-get_or, slice_get_read}
use Rattle.observe_log.specs.Loops.{StandSo}
use Rattle.observe_log.proofs.FollowLemmas.{stand_more}
use Rattle.observe_log.proofs.told.are_in_order.Goals as goal

pub loop-place-preserved : goal.loop-place-preserved
loop-place-preserved c =
    let seen = c.args.seen.now in
    let lines = c.args.lines.now in
    let i = c.loop-place.place-index in
    let n : ℕ = get_or lines i 0 in
    let line = c.in-Some.line.now in
    let place_is : slice_get lines i ≡ Some n = slice_get-get_or lines i 0 c.loop-place-test.true in
    let found = c.in-Some.ensures.lookup in
    let line_is : slice_get seen n ≡ Some line = slice_get_read seen (length seen) n line refl found.3.0 found.1 in
    let bus_is : c.place_of-bus.result ≡ line.bus = c.place_of-bus.ensures.0 in
    let bus_in : line.bus < length c.loop-place.last = omega (arith, bus_is, c.place_of-bus.ensures.1, c.loop-place.invariant.buses) in
    let behind = rw bus_is at c.if-place-last.false in
    let more = stand_more seen lines i c.loop-place.last c.loop-place.latest_start n line place_is line_is bus_in behind c.if-line-latest_start.false c.loop-place.invariant in
    subst (λ (m : ℕ). StandSo seen lines (i + 1) (set c.loop-place.last c.place_of-bus.result n) m) (sym c.max-latest_start.ensures)
    (subst (λ (b : ℕ). StandSo seen lines (i + 1) (set c.loop-place.last b n) (max line.start c.loop-place.latest_start)) (sym bus_is) more)
