use Rattle.std.proofs.lemmas.Result.{IfErr-weaker}
use Rattle.program_input.proofs.TreeLemmas.{read_refused}
use Rattle.program_input.proofs.board.read_tree.Goals as goal

pub returns-in-Ok-clause-err : goal.returns-in-Ok-clause-err
returns-in-Ok-clause-err c =
    IfErr-weaker _ _ _ (λ status. read_refused c.args.input.now c.in-Ok.board status c.in-Ok.ensures.read) c.tree_of.ensures.err
