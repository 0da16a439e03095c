use Rattle.std.proofs.Common.{◌≡◌, true, false, is_some, sym, ap, ◌∙◌, arith}
use Rattle.std.proofs.lemmas.Grind.{common_steps}
use Rattle.board_writes.specs.Rows.{table_of}
use Rattle.safe_said.proofs.RunLemmas.{some_beside, none_beside}
use Rattle.safe_said.proofs.reads.beside_in.Goals as goal

pub returns-in-Some : goal.returns-in-Some
returns-in-Some c =
    let none : c.is_before.result ≡ false = grind (arith, common_steps, c.if-not-is_before.true) in
    some_beside c.args.looks.now.tree.now (table_of c.args.looks.now.table.now) c.requires.seen.largest c.args.read c.args.run.now c.count_before.result c.in-Some.write.now false c.requires.run c.count_before.ensures.count c.in-Some.ensures.lookup.3.0 c.in-Some.ensures.lookup.1
    (sym (c.is_before.ensures c.args.looks.now.tree.now c.requires.seen.polls) ∙ none)

pub returns-in_default : goal.returns-in_default
returns-in_default c =
    let some : c.is_before.result ≡ true = grind (arith, common_steps, c.if-not-is_before.false) in
    some_beside c.args.looks.now.tree.now (table_of c.args.looks.now.table.now) c.requires.seen.largest c.args.read c.args.run.now c.count_before.result c.in-Some.write.now true c.requires.run c.count_before.ensures.count c.in-Some.ensures.lookup.3.0 c.in-Some.ensures.lookup.1
    (sym (c.is_before.ensures c.args.looks.now.tree.now c.requires.seen.polls) ∙ some)

pub returns-in_default-2 : goal.returns-in_default-2
returns-in_default-2 c =
    none_beside c.args.looks.now.tree.now (table_of c.args.looks.now.table.now) c.requires.seen.largest c.args.read c.args.run.now c.count_before.result c.requires.run c.count_before.ensures.count
    (sym c.get.ensures.lookup.0 ∙ ap is_some c.in_default.is)
