use Rattle.std.proofs.Common.{refl}
use Rattle.observe_told.specs.declared.woven.Woven.{Woven}
use Rattle.observe_told.proofs.WovenLemmas.{arrival_goes_on}
use Rattle.observe_told.proofs.woven.Woven.push_arrival.Goals as goal

-- the arrival is the last
pub returns : goal.returns
returns c =
    let after : Woven = record { strands = c.push.new.self; acts = c.args.self.now.acts } in
    arrival_goes_on c.args.lane c.args.mark c.args.self.now after refl c.in_ok-push.ensures.items
