-- What the law of the order of writes states, and what other crates may rest on besides.

-- a write that was told of another lands after it, and a posted one lands no more once the other has
pub use Rattle.law_safe.proofs.writes.InOrderLemmas.{told_first, told_last}
-- a posted write that has landed brings nothing more
pub use Rattle.law_safe.proofs.writes.OnceLemmas.{posted_once}
