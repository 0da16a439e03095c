-- What the laws of order state, and what other crates may rest on besides.

-- a write that comes before a read was told to it, and what a read comes before is not seen by it
pub use Rattle.law_safe.proofs.before.SoundLemmas.{before_told, after_not_seen}
-- in every run each firm poll that was met was met by a raiser that is not left out
pub use Rattle.law_safe.proofs.before.OrderLemmas.{MetBy, RaisedBy, SoundAt, Sound}
pub use Rattle.law_safe.proofs.before.SoundLemmas.{Sound-run}
-- what landed in a word are the data phases that writes of the board bring to it
pub use Rattle.law_safe.proofs.before.WrittenLemmas.{Written, written}
-- facts on the definitions of safe_model

-- what a raised clock counts
pub use Rattle.law_safe.proofs.before.OrderLemmas.{raised_below, below_raised, below_own}
-- what brings data phases to a word names it
pub use Rattle.safe_model.proofs.WordLemmas.{same_dword_true}
pub use Rattle.law_safe.proofs.before.LastLemmas.{names_word}
