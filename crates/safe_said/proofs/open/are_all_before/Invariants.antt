use Rattle.std.proofs.Common.{drop}
use Rattle.safe_model.specs.largest.Tests.{is_before}
use Rattle.board_writes.specs.Rows.{table_of}
use Rattle.safe_said.proofs.OpenLemmas.{KeptIf}
use Rattle.safe_said.proofs.open.are_all_before.Given as goal

-- all of the runs so far do
abbrev pub invariant-loop-run : goal.invariant-loop-run
invariant-loop-run l = KeptIf (λ write. is_before l.looks.tree.now (table_of l.looks.table.now) write l.read) l.runs (drop l.run-index l.runs)
