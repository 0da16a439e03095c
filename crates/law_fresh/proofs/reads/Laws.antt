-- What the law of reads states.

-- a read that returned had read what it returned, and one that ended had read before it did
pub use Rattle.law_fresh.proofs.reads.GotLemmas.{returned_got, always_got}
-- facts on the definitions of this crate

-- an operation reads or not, and its master is there
pub use Rattle.law_fresh.proofs.reads.GotLemmas.{master_there, read_or_not}
-- no completion of an operation that has read nothing is about
pub use Rattle.law_fresh.proofs.reads.AboutLemmas.{NotDone, none_about}
-- how a read is answered, and who reads nothing
pub use Rattle.law_fresh.proofs.reads.AnswerLemmas.{What, read_answered}
pub use Rattle.law_fresh.proofs.reads.OtherLemmas.{no_reading}
-- an operation on its way has a word where its way ends
pub use Rattle.law_fresh.proofs.reads.ReadLemmas.{HasWord, Known-run, not_posted}
-- the words of an operation, along its way
pub use Rattle.law_fresh.proofs.reads.WordLemmas.{no_words, word_at, word_by, word_here, word_of, word_on, word_there}
