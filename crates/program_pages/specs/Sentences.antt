-- Why an event is not allowed, in words.
use Rattle.std.specs.Prelude.{ℕ, List, codes}
use Rattle.history_model.specs.declared.why.Why.{Why}
use Rattle.history_model.specs.declared.why.Why.TheVariants.{NotPresented, AnsweredOtherwise, GetsRetry, NothingInFlight, MarkedOtherwise}

-- one sentence for each cause
unfoldable pub sentence_of : Why → List ℕ
sentence_of NotPresented = codes "its initiator does not present that operation on that bus now"
sentence_of AnsweredOtherwise = codes "the operation is answered by another event"
sentence_of GetsRetry = codes "the operation is answered with Retry"
sentence_of NothingInFlight = codes "nothing is in flight on the lane"
sentence_of MarkedOtherwise = codes "the board marks this arrival otherwise"
