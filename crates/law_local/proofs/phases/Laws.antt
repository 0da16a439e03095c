-- What the laws of phases state, and what other crates rest on besides.

-- what all buses did up to now is a run
pub use Rattle.law_local.proofs.phases.PastLemmas.{pasts_run}
-- the next item that comes to a bus is one that it takes
pub use Rattle.law_local.proofs.phases.TakenLemmas.{next_taken}
-- what a lane presents is not claimed by its lane back
pub use Rattle.law_local.proofs.phases.ClaimedLemmas.{nothing_back}
-- where no bus of the board has anything more to do, the run is complete
pub use Rattle.law_local.proofs.phases.QuietLemmas.{buses_complete}
-- an engine at first, in a phase, and in the next one
pub use Rattle.law_local.proofs.phases.EngineLemmas.{engine_first, phase_room, worked_run, did_is, knows_is, refused_taken, never_back, keeps_fewer, next_engine}
-- an engine between two phases is a run, and complete where nothing is left to do
pub use Rattle.law_local.proofs.phases.CompleteLemmas.{engine_run, engine_complete}
-- facts on the definitions of this crate

-- a bus does nothing on a lane of no bridge
pub use Rattle.law_local.proofs.phases.BridgeLemmas.{untouched}
-- a lane of a bridge begins and ends on a bus of the board
pub use Rattle.law_local.proofs.phases.BusLemmas.{start_is_bus, end_is_bus}
