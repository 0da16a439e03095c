use Rattle.law_local.proofs.room.RoomLemmas.{what_is_left}
use Rattle.law_local.proofs.room.SettleLemmas.{settled_in_order}
use Rattle.law_local.proofs.room.order_says_what_is_left.Goals as goal

pub returns-clause-left : goal.returns-clause-left
returns-clause-left c = what_is_left

pub returns-clause-settled : goal.returns-clause-settled
returns-clause-settled c = settled_in_order
