use Rattle.std.proofs.Common.{is_some, sym, ap, ◌∙◌}
use Rattle.board_writes.specs.Rows.{table_of}
use Rattle.safe_said.proofs.OpenLemmas.{some_open, none_open}
use Rattle.safe_said.proofs.open.is_open_in.Goals as goal

pub returns-in-Some : goal.returns-in-Some
returns-in-Some c =
    c.is_open_to.ensures
    ∙ some_open c.args.looks.now.tree.now (table_of c.args.looks.now.table.now) c.requires.seen.largest c.args.write c.args.run.now c.count_settled.result c.in-Some.other.now c.requires.run c.count_settled.ensures.count c.in-Some.ensures.lookup.3.0 c.in-Some.ensures.lookup.1

pub returns-in-None : goal.returns-in-None
returns-in-None c =
    none_open c.args.looks.now.tree.now (table_of c.args.looks.now.table.now) c.requires.seen.largest c.args.write c.args.run.now c.count_settled.result c.requires.run c.count_settled.ensures.count
    (sym c.get.ensures.lookup.0 ∙ ap is_some c.in-None.is)
