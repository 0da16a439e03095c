-- What other crates rest on.

-- where the bridges of a board hang, and the workers before the first phase
pub use Rattle.engine_runs.proofs.FirstLemmas.{linked, above_first, hang_first, apart_first, ready_first, all_alike, steady_first}
-- that stays as long as the buses of the workers are the same, also when all ends are settled
pub use Rattle.engine_runs.proofs.LayLemmas.{then, are_still, apart_still, hang_still, above_still, ports_same, masters_same, ready_still, lay_settled, ready_settled}
-- a worker in a list, as it is seen
pub use Rattle.engine_runs.proofs.OneLemmas.{set_here, set_other, seen_at, seen_there}
