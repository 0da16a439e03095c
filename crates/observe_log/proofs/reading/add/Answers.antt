use Rattle.std.proofs.Common.{◌≡◌, ◌<◌, [], ◌∷◌, ◌++◌, length, rules}
use Rattle.observe_log.proofs.EndLemmas.{ends_more}
use Rattle.observe_log.proofs.reading.add.Goals as goal

pub returns-clause-ends : goal.returns-clause-ends
returns-clause-ends c =
    let put : c.push.new.self.items ≡ c.args.lines.now.items ++ c.args.seen ∷ [] = search rules in
    let inside : c.args.seen.bus < length c.args.ends.now = search rules in
    rw (put, c.from-bus.ensures) (ends_more c.args.ends.now c.args.lines.now.items c.args.seen inside c.requires)
