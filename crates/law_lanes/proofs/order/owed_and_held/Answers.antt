use Rattle.law_lanes.proofs.order.CreditCounts.{owed_counted}
use Rattle.law_lanes.proofs.order.SlotCounts.{held_counted}
use Rattle.law_lanes.proofs.order.owed_and_held.Goals as goal

pub returns : goal.returns
returns c = record { owed = owed_counted; held = held_counted }
