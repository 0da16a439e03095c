-- What the laws of the bound state.

-- each event of a run of a valid board lowers what is left
pub use Rattle.law_bound.proofs.FallLemmas.{each_lowers}
-- so at most as many events follow as are left, and a run has at most as many as the bound
pub use Rattle.law_bound.proofs.FallLemmas.{follow_left, run_bounded}
-- before the first event the bound is left
pub use Rattle.law_bound.proofs.BeginsLemmas.{left-begins, Begins-formed}
