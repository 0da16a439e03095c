use Rattle.run_report.proofs.way_counts.EndLemmas.{complete_weighs}
use Rattle.run_report.proofs.way_counts.ReportLemmas.{complete_long, complete_report}
use Rattle.run_report.proofs.way_counts.complete_runs_have_the_way_counts.Goals as goal

pub returns-clause-many : goal.returns-clause-many
returns-clause-many c = λ board h valid steady run complete. complete_long board h (λ weight. complete_weighs board weight h valid steady run complete) valid steady

pub returns-clause-report : goal.returns-clause-report
returns-clause-report c = λ board h valid steady run complete. complete_report board h (λ weight. complete_weighs board weight h valid steady run complete) valid steady
