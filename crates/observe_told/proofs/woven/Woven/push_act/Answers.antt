use Rattle.observe_told.specs.declared.woven.Woven.{Woven}
use Rattle.observe_told.proofs.WovenLemmas.{act_goes_on}
use Rattle.observe_told.proofs.woven.Woven.push_act.Goals as goal

-- the act is the last, and so is its place
pub returns : goal.returns
returns c =
    let after : Woven = record { strands = c.push-2.new.self; acts = c.push.new.self } in
    act_goes_on c.args.act c.args.self.now after c.in_ok-push.ensures.items c.in_ok-push-2.ensures.items
