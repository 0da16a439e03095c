use Rattle.std.proofs.Common.{sym, ◌∙◌}
use Rattle.board_writes.specs.Rows.{table_of}
use Rattle.safe_said.proofs.OpenLemmas.{run_before, no_run_before}
use Rattle.safe_said.proofs.open.is_last_before.Goals as goal

pub returns-in-Some : goal.returns-in-Some
returns-in-Some c = λ is.
    run_before c.args.looks.now.tree.now (table_of c.args.looks.now.table.now) c.requires.seen.largest c.args.read c.args.run.now c.in-Some.last c.requires.run (sym c.in-Some.is ∙ c.last_of.ensures)
    (sym (c.is_before.ensures c.args.looks.now.tree.now c.requires.seen.polls) ∙ is)

pub returns-in-None : goal.returns-in-None
returns-in-None c = λ _.
    no_run_before c.args.looks.now.tree.now (table_of c.args.looks.now.table.now) c.args.read c.args.run.now (sym c.in-None.is ∙ c.last_of.ensures)
