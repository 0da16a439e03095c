-- What the law of posted events states.

-- each act of a posted write, each arrival of one or of a credit, and each stall lowers what is left
pub use Rattle.law_bound.proofs.posted.EventLemmas.{events_lower}
