use Rattle.std.proofs.Common.{◌≡◌, ◌++◌, drop, slice_get}
use Rattle.std.specs.List.{flat_map}
use Rattle.draw_journeys.specs.Kept.{track_on}
use Rattle.draw_journeys.proofs.tracks.tracks_at.Given as goal

-- the tracks so far, and those to come
abbrev pub invariant-loop-place : goal.invariant-loop-place
invariant-loop-place l =
    l.tracks.items ++ flat_map (λ place. track_on l.lane (slice_get l.journeys place)) (drop l.place-index l.places)
    ≡ flat_map (λ place. track_on l.lane (slice_get l.journeys place)) l.places
