-- What the law of progress states, and what other crates rest on besides.

-- an event comes next, or the run is complete
pub use Rattle.law_lanes.proofs.progress.GoOnLemmas.{goes_on, runs_go_on}
-- the next event in the fixed order is allowed, and there is none where the run is complete
pub use Rattle.law_lanes.proofs.progress.NextSoundLemmas.{next_allowed}
pub use Rattle.law_lanes.proofs.progress.NextStopLemmas.{complete_none, next_complete}
-- facts on the definitions of this crate

-- nothing is on a lane of no bridge
pub use Rattle.law_lanes.proofs.progress.ArrivalLemmas.{no_bridge_empty}
-- a valid board meets all that this rests on
pub use Rattle.law_lanes.proofs.progress.SoundLemmas.{Sound-valid}
-- what the first gives that gives anything, number by number
pub use Rattle.law_lanes.proofs.progress.NextFirstLemmas.{first_more, bus_found, bus_none}
