use Rattle.std.proofs.Common.{ap, ◌∙◌}
use Rattle.draw_journeys.specs.Steps.{least_free}
use Rattle.draw_journeys.proofs.UnderWayLemmas.{tracks_places}
use Rattle.draw_journeys.proofs.tracks.free_track.Goals as goal

pub returns : goal.returns
returns c =
    c.least_free.ensures ∙ ap least_free (c.as_slice.ensures.value ∙ c.in_ok-tracks.ensures ∙ tracks_places c.args.lane c.args.journeys.now c.args.under_way.now c.requires)
