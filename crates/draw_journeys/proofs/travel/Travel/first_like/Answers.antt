use Rattle.history_model.specs.Moves.{is_like}
use Rattle.draw_items.specs.Journeys.{is_there}
use Rattle.draw_journeys.proofs.UnderWayLemmas.{there_under, found_in}
use Rattle.draw_journeys.proofs.travel.Travel.first_like.Goals as goal

pub returns-clause-first : goal.returns-clause-first
returns-clause-first c =
    let now = c.args.self.now in
    (found_in (is_there c.args.lane (is_like c.args.item)) (there_under c.args.lane (is_like c.args.item)) now.journeys.items c.as_slice.result.now now.under_way.items c.as_slice-2.result.now c.like_at.result c.requires c.as_slice.ensures.value c.as_slice-2.ensures.value c.like_at.ensures).first

pub returns-clause-there : goal.returns-clause-there
returns-clause-there c =
    let now = c.args.self.now in
    (found_in (is_there c.args.lane (is_like c.args.item)) (there_under c.args.lane (is_like c.args.item)) now.journeys.items c.as_slice.result.now now.under_way.items c.as_slice-2.result.now c.like_at.result c.requires c.as_slice.ensures.value c.as_slice-2.ensures.value c.like_at.ensures).there
