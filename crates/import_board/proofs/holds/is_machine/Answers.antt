use Rattle.std.proofs.Common.{sym, ◌∙◌, subst}
use Rattle.import_bridges.specs.declared.machine.Root.{Root}
use Rattle.import_board.specs.Machine.{IsMachine}
use Rattle.import_board.proofs.MachineLemmas.{of_test}
use Rattle.import_board.proofs.holds.is_machine.Goals as goal

pub returns : goal.returns
returns c = λ is. subst (λ (root : Root). IsMachine root c.args.functions.now c.args.board.now) c.first_root.ensures
    (of_test c.first_root.result c.args.functions.now c.args.board.now (sym c.judged.ensures ∙ is))
