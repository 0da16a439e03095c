use Rattle.std.proofs.Common.{ℕ, List, sym, subst}
use Rattle.observe_log.specs.Checks.{AreNone}
use Rattle.observe_log.proofs.BegunLemmas.{zeros}
use Rattle.observe_log.proofs.told.are_told.Goals as goal

pub count_begun-requires : goal.count_begun-requires
count_begun-requires c = subst (λ (l : List ℕ). AreNone l) (sym c.requires.none) (zeros c.args.board.now.masters)
