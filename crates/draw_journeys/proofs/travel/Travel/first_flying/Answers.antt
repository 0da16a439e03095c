use Rattle.draw_items.specs.Journeys.{flies}
use Rattle.draw_journeys.proofs.UnderWayLemmas.{flies_under, found_in}
use Rattle.draw_journeys.proofs.travel.Travel.first_flying.Goals as goal

pub returns-clause-first : goal.returns-clause-first
returns-clause-first c =
    let now = c.args.self.now in
    (found_in (flies c.args.lane) (flies_under c.args.lane) now.journeys.items c.as_slice.result.now now.under_way.items c.as_slice-2.result.now c.flying_at.result c.requires c.as_slice.ensures.value c.as_slice-2.ensures.value c.flying_at.ensures).first

pub returns-clause-there : goal.returns-clause-there
returns-clause-there c =
    let now = c.args.self.now in
    (found_in (flies c.args.lane) (flies_under c.args.lane) now.journeys.items c.as_slice.result.now now.under_way.items c.as_slice-2.result.now c.flying_at.result c.requires c.as_slice.ensures.value c.as_slice-2.ensures.value c.flying_at.ensures).there
