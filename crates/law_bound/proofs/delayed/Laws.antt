-- What the law of delayed events states.

-- each act of a delayed operation lowers what is left
pub use Rattle.law_bound.proofs.delayed.ActEventLemmas.{act_lowers}
-- and so does each arrival of a request, of a completion, or of the word that a request was dropped
pub use Rattle.law_bound.proofs.delayed.ArriveEventLemmas.{arrival_lowers}
