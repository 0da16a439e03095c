-- What the laws of this crate state, and what other crates rest on besides.

-- what a segment stands for, by its ports and by its lanes, and after a turn
pub use Rattle.engine_phases.proofs.StandLemmas.{stands_for, stands_on}
pub use Rattle.engine_phases.proofs.PortLemmas.{SameAtPorts, past_at_ports, goes_at_ports, stands_at_ports, stands_later, comes_behind, own_past}
-- all segments are an engine between two phases, and in one
pub use Rattle.engine_phases.proofs.WorkerLemmas.{stands_by_lanes, engine_of, worked_of, worked_rest}
-- no segment has a cause to stop
pub use Rattle.engine_phases.proofs.StopLemmas.{no_stop}
-- where a lane ends among the workers
pub use Rattle.engine_phases.proofs.SpotLemmas.{same_there, same_port}
-- what all recorded, as one history, which is a run
pub use Rattle.engine_phases.proofs.MergeLemmas.{Recorded, all_own, all_of, all_counted, all_merged, parts_of_all}
pub use Rattle.engine_phases.proofs.RunLemmas.{RunsEnd, merged_between, engine_between, run_between, bound_between, count_between, parts_same, count_same}
-- what all did in a phase, lane by lane
pub use Rattle.engine_phases.proofs.DidLemmas.{Turns, EndStep, WorkerDone, PhaseDone, phase_done}
-- after the turns: where all lanes brought their items in order, no segment stopped; and all ends may be settled
pub use Rattle.engine_phases.proofs.GoingLemmas.{Got, Came, Put, Part, OneDone, before, are_after, apart_after, merged_after, none_stopped, end_facts, may_settle_all}
-- when all ends are settled, the next phase begins; or, where no worker did anything, the run is complete
pub use Rattle.engine_phases.proofs.NextLemmas.{next, apart_settled, between_next, next_stamps, stamps_settled}
pub use Rattle.engine_phases.proofs.QuietLemmas.{complete_now, same_events}
-- a phase in which what is sent comes across when it ends
pub use Rattle.engine_phases.proofs.SteadyLemmas.{few_phases, may_settle, going_on, settled_after, complete_after}
