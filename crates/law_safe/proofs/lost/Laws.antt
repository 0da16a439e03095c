-- What the laws of what is said of operations without a word state.

-- a write that is said to be lost lands in no word
pub use Rattle.law_safe.proofs.lost.LostLemmas.{lost_lands}
-- a read or a poll that is said to read nowhere reads no word
pub use Rattle.law_safe.proofs.lost.NowhereLemmas.{nowhere_reads}
-- a write that has a word has landed, once it has ended and the run is complete
pub use Rattle.law_safe.proofs.lost.WholeLemmas.{ended_landed}
