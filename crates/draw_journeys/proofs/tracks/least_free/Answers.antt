use Rattle.std.proofs.Common.{◌≡◌, ℕ, ◌+◌, ◌-◌, ◌<◌, suc, Bool, true, false, cond, length, List, sym, ap, ◌∙◌, arith}
use Rattle.draw_journeys.specs.Steps.{is_in, free_from}
use Rattle.draw_journeys.proofs.tracks.least_free.Goals as goal

-- one more to be tried
step : (tracks : List ℕ) (track all : ℕ) (b : Bool) → track < all → is_in tracks track ≡ b → free_from tracks track (all - track) ≡ cond b (free_from tracks (track + 1) (all - (track + 1))) track
step tracks track all b within is =
    let more : all - track ≡ suc (all - (track + 1)) = omega arith in
    ap (λ n. free_from tracks track n) more ∙ ap (λ x. cond x (free_from tracks (track + 1) (all - (track + 1))) track) is

pub loop-track-preserved : goal.loop-track-preserved
loop-track-preserved c =
    let tracks = c.args.tracks.now in
    sym (step tracks c.loop-track.track (length tracks) true c.loop-track-test.true (sym c.is_in.ensures ∙ c.if-not-is_in.false)) ∙ c.loop-track.invariant

pub returns-then-not-is_in : goal.returns-then-not-is_in
returns-then-not-is_in c =
    let tracks = c.args.tracks.now in
    sym (step tracks c.loop-track.track (length tracks) false c.loop-track-test.true (sym c.is_in.ensures ∙ c.if-not-is_in.true)) ∙ c.loop-track.invariant

pub returns : goal.returns
returns c =
    let tracks = c.args.tracks.now in
    let track = c.loop-track.track in
    let none : length tracks - track ≡ 0 = omega (arith, c.loop-track-test.false) in
    let all : length tracks ≡ track = omega (arith, c.loop-track-test.false, c.loop-track.auto.track-end) in
    all ∙ sym (ap (λ n. free_from tracks track n) none) ∙ c.loop-track.invariant
