use Rattle.std.proofs.Common.{◌≡◌, Some, ap, sym, ◌∙◌, slice_get}
use Rattle.bus_core.specs.Bus.{BusView}
use Rattle.bus_core.proofs.LineLemmas.{bus_offers}
use Rattle.bus_core.proofs.bus.Bus.offers.Goals as goal

pub returns-clause-offers : goal.returns-clause-offers
returns-clause-offers c =
    let o = c.offers_at.ensures.offers in
    let there : slice_get c.args.self.now.ports c.args.place ≡ Some o.port =
    ap (λ (s : BusView). slice_get s.ports c.args.place) (sym c.self.view_is) ∙ (ap (λ ports. slice_get ports c.args.place) (sym c.as_slice.ensures.value) ∙ o.there) in
    bus_offers c.args.place c.args.self.now c.offers_at.result.items o.port there o.offers_are
