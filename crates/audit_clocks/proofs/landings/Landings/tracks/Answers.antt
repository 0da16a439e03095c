use Rattle.std.proofs.Common.{◌≡◌, subst, refl, [], rules}
use Rattle.audit_clocks.specs.Tables.{writes_in}
use Rattle.audit_clocks.specs.Tracks.{Tracked}
use Rattle.audit_clocks.proofs.TrackLemmas.{nothing_tracked}
use Rattle.audit_clocks.proofs.landings.Landings.tracks.Goals as goal

pub returns-in-Some : goal.returns-in-Some
returns-in-Some c =
    let same : c.in-Some.landed.now ≡ writes_in c.args.word c.args.self.now = search rules in
    subst (λ xs. Tracked xs c.tracks.result.now) same c.tracks.ensures

pub returns-in-None : goal.returns-in-None
returns-in-None c =
    let none : [] ≡ writes_in c.args.word c.args.self.now = search rules in
    subst (λ xs. Tracked xs []) none (nothing_tracked [] refl)
