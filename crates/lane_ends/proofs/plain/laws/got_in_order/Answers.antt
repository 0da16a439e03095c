use Rattle.lane_ends.proofs.plain.PlainLemmas.{plain_front, plain_in_order}
use Rattle.lane_ends.proofs.plain.laws.got_in_order.Goals as goal

pub returns-clause-front : goal.returns-clause-front
returns-clause-front c = λ end. plain_front end.got end.hand

pub returns-clause-in_order : goal.returns-clause-in_order
returns-clause-in_order c = λ near far. plain_in_order far.got far.hand near.sent
