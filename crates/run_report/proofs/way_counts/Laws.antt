-- What the laws of counts state.

-- the events of a complete run of a steady board weigh what its operations weigh along their ways
pub use Rattle.run_report.proofs.way_counts.EndLemmas.{complete_weighs}
-- so it has as many events as the bound, and its report is the one of the way counts
pub use Rattle.run_report.proofs.way_counts.ReportLemmas.{complete_long, complete_report}
