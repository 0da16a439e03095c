use Rattle.std.proofs.Common.{sym, subst, ◌∙◌}
use Rattle.board_writes.specs.Raising.{KeepsRaising}
use Rattle.board_writes.proofs.RaisingLemmas.{keeps_put}
use Rattle.board_writes.proofs.writers.raising.Raising.put.Goals as goal

pub returns : goal.returns
returns c =
    keeps_put c.args.words.now c.args.awaited c.in_ok-list.list c.self.inside.lists.entries c.insert.new.self.entries (c.in_ok-list.ensures ∙ c.requires.are) (λ q. c.in_ok-insert.ensures.updates.0 q)
    (subst (KeepsRaising c.args.words.now) (sym c.self.view_is) c.requires.kept)
