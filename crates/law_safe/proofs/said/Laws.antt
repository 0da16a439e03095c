-- What the laws of what is said state, and what other crates may rest on besides.

-- a read that is said to be safe is, and a poll that is said to be vain is not met
pub use Rattle.law_safe.proofs.said.SaidLemmas.{said_is_safe, said_returns, said_not_met}
-- an operation that is not reached comes before itself
pub use Rattle.law_safe.proofs.said.SaidLemmas.{not_reached}
-- writes that are settled, put in order, are settled each with those behind it
pub use Rattle.law_safe.proofs.said.OrderedLemmas.{order_sorted, none_open}
