use Rattle.std.proofs.Common.{◌≡◌, ◌-◌, length}
use Rattle.draw_journeys.specs.Steps.{free_from, least_free}
use Rattle.draw_journeys.proofs.tracks.least_free.Given as goal

-- so many were tried, and none was free
abbrev pub invariant-loop-track : goal.invariant-loop-track
invariant-loop-track l = free_from l.tracks l.track (length l.tracks - l.track) ≡ least_free l.tracks
