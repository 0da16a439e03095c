use Rattle.law_lanes.proofs.order.SentLemmas.{sent_received, sent_counted}
use Rattle.law_lanes.proofs.order.sent_is_received.Goals as goal

pub returns : goal.returns
returns c = record { items = sent_received; many = sent_counted }
