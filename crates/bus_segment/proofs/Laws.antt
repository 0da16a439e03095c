-- What the laws of segments state, and what other crates rest on besides.

-- the steps of a turn, one after the other, are one
pub use Rattle.bus_segment.proofs.TurnLemmas.{does_none, does_further}
-- nothing is ever on a lane of no bridge
pub use Rattle.bus_segment.proofs.OtherLemmas.{none_elsewhere}
-- facts on lists

-- something is at each place of a list
pub use Rattle.bus_segment.proofs.DoesLemmas.{there_at}
-- what is so of all is so of those in front
pub use Rattle.bus_segment.proofs.StepLemmas.{all_front}
