use Rattle.std.proofs.Common.{◌≡◌, List, IfSome, Option, sym, subst}
use Rattle.std.specs.List.{filter}
use Rattle.board_writes.specs.declared.writers.write.WordWrite.{WordWrite}
use Rattle.board_writes.specs.Writes.{writes_at}
use Rattle.board_writes.specs.Polls.{raises_it}
use Rattle.board_writes.proofs.RaisingLemmas.{raising_alone}
use Rattle.board_writes.proofs.writers.table.Writers.raising.Goals as goal

pub returns-in-Some : goal.returns-in-Some
returns-in-Some c =
    raising_alone c.args.awaited (writes_at c.args.awaited.word c.args.self.now) c.in-Some.list.now
    (subst (λ es. c.in-Some.list.now ≡ filter (raises_it c.args.awaited) (writes_at c.args.awaited.word es)) c.self.view_is
    (subst (λ (found : Option (List WordWrite)). IfSome found (λ these. these ≡ filter (raises_it c.args.awaited) (writes_at c.args.awaited.word c.self.inside.words))) (sym c.in-Some.ensures) (c.self.invariant.1.of_awaited c.args.awaited)))
