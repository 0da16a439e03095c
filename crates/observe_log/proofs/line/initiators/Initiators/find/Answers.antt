use Rattle.std.proofs.Common.{◌<◌, arith}
use Rattle.observe_log.proofs.InitiatorLemmas.{more_right}
use Rattle.observe_log.proofs.line.initiators.Initiators.find.Goals as goal

pub invariant_of-self : goal.invariant_of-self
invariant_of-self c =
    let inside : c.from-at.result < 256 = omega arith in
    more_right c.self.inside.board.now c.self.inside.likely (record { word = c.args.word; bus = c.args.bus; who = c.in_ok-who.who }) c.from-at.result inside c.in_ok-who.ensures c.self.invariant
