use Rattle.bus_segment.proofs.turns.worker.Worker.turn.Goals as goal

pub turn_again-requires-clause-may : goal.turn_again-requires-clause-may
turn_again-requires-clause-may g c =
    record {
      valid = c.requires.valid;
      going = c.requires.going;
      ends = c.requires.ends;
      few_ports = c.requires.few.0;
      few_masters = c.requires.few.1;
      counts = c.requires.counts;
      spare = c.requires.spare;
    }

pub turn_again-requires-clause-idle : goal.turn_again-requires-clause-idle
turn_again-requires-clause-idle g c = λ wrong. cc

pub returns-clause-does : goal.returns-clause-does
returns-clause-does g c = c.turn_again.ensures.turn.does

pub returns-clause-shape : goal.returns-clause-shape
returns-clause-shape g c = c.turn_again.ensures.turn.shape

pub returns-clause-ends : goal.returns-clause-ends
returns-clause-ends g c = c.turn_again.ensures.turn.ends

pub returns-clause-counts : goal.returns-clause-counts
returns-clause-counts g c = c.turn_again.ensures.turn.counts

pub returns-clause-many : goal.returns-clause-many
returns-clause-many g c = c.turn_again.ensures.turn.many

pub returns-clause-few : goal.returns-clause-few
returns-clause-few g c = c.turn_again.ensures.turn.few

pub returns-clause-quiet : goal.returns-clause-quiet
returns-clause-quiet g c = c.turn_again.ensures.turn.quiet

pub returns-clause-stamps : goal.returns-clause-stamps
returns-clause-stamps g c = c.turn_again.ensures.turn.stamps
