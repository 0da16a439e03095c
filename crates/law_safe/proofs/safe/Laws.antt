-- What the law of safe reads states.

-- a read that is safe returns its value
pub use Rattle.law_safe.proofs.safe.SafeLemmas.{safe_returns}
