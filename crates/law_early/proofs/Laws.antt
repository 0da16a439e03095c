-- What the law of early arrivals states, of a valid board.

-- an act that is in a run behind these acts is allowed after any run of them after which nothing is in flight
pub use Rattle.law_early.proofs.LinedLemmas.{lined_any_order}
-- and such a run is complete where any run of its acts is
pub use Rattle.law_early.proofs.LinedLemmas.{lined_complete_any}
