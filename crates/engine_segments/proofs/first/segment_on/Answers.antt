use Rattle.engine_segments.proofs.FirstLemmas.{made_first}
use Rattle.engine_segments.proofs.first.segment_on.Goals as goal

pub returns-clause-first : goal.returns-clause-first
returns-clause-first g c =
    made_first c.args.board.now c.requires.valid c.requires.fit c.args.bus c.in_ok-bus.bus c.in_ok-bus.ensures c.args.ends.items c.requires.one_a_port
    c.new.result.bus c.new.result.stamp c.new.result.stopped c.new.result.ends.items c.new.result.events.items c.new.ensures.bus c.new.ensures.stamp c.new.ensures.goes c.new.ensures.ends c.new.ensures.none
