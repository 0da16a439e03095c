use Rattle.std.proofs.Common.{◌≡◌, length, ap, arith}
use Rattle.draw_journeys.specs.Kept.{is_under_way}
use Rattle.draw_journeys.proofs.UnderWayLemmas.{listed_more}
use Rattle.draw_journeys.proofs.travel.Travel.send.Goals as goal

pub returns-clause-listed : goal.returns-clause-listed
returns-clause-listed c =
    let old = c.args.self.now in
    let counted : c.len-place.result ≡ length old.journeys.items = omega (arith, c.len-place.ensures) in
    listed_more old.journeys.items c.push-2.new.self.items old.under_way.items c.push.new.self.items c.len-place.result c.begins.result c.requires
    c.in_ok-push.ensures.items counted c.in_ok-push-2.ensures.items (ap is_under_way c.begins.ensures)
