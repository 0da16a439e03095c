use Rattle.std.proofs.Common.{sym, ◌∙◌}
use Rattle.draw_journeys.proofs.UnderWayLemmas.{listed_same, listed_less}
use Rattle.draw_journeys.proofs.travel.Travel.change.Goals as goal

pub returns-then-not-is_under_way-clause-listed : goal.returns-then-not-is_under_way-clause-listed
returns-then-not-is_under_way-clause-listed c =
    let old = c.args.self.now in
    listed_less old.journeys.items c.put_journey.new.journeys.items old.under_way.items c.drop_place.new.places.items c.args.place c.args.journey c.requires.listed c.requires.there
    c.put_journey.ensures (sym c.is_under_way.ensures ∙ c.if-not-is_under_way.true) c.drop_place.ensures

pub returns-else-not-is_under_way-clause-listed : goal.returns-else-not-is_under_way-clause-listed
returns-else-not-is_under_way-clause-listed c =
    let old = c.args.self.now in
    listed_same old.journeys.items c.put_journey.new.journeys.items old.under_way.items c.args.place c.args.journey c.requires.listed c.requires.there
    c.put_journey.ensures (sym c.is_under_way.ensures ∙ c.if-not-is_under_way.false)
