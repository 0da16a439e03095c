use Rattle.std.proofs.Common.{◌≡◌, ◌↔◌, Option, None, sym, ap, subst, ◌∙◌}
use Rattle.std.specs.Prelude.{IfSome}
use Rattle.board_model.specs.declared.board.Board.{Board}
use Rattle.history_model.specs.declared.event.Event.{Event}
use Rattle.history_model.specs.Runs.{Allowed, Complete, history_of}
use Rattle.board_model.specs.Fits.{BoardFits}
use Rattle.history_model.specs.Next.{next_of}
use Rattle.plain_replay.proofs.next.next_event.Goals as goal

pub returns-clause-allowed : goal.returns-clause-allowed
returns-clause-allowed c =
    let board : Board = c.args.tree.now in
    let h = history_of c.args.events.now in
    let is : c.next_on.result ≡ next_of board h = c.next_on.ensures ∙ ap (λ (b : Board). next_of b h) c.board-board.ensures.value in
    subst (λ (some : Option Event). IfSome some (Allowed board h)) (sym is) (c.next_goes_on.ensures.allowed board h)

pub returns-clause-complete : goal.returns-clause-complete
returns-clause-complete c =
    let board : Board = c.args.tree.now in
    let h = history_of c.args.events.now in
    let is : c.next_on.result ≡ next_of board h = c.next_on.ensures ∙ ap (λ (b : Board). next_of b h) c.board-board.ensures.value in
    let fits : BoardFits board = subst BoardFits c.board-board.ensures.value c.board_fits.ensures in
    subst (λ (some : Option Event). (some ≡ None) ↔ Complete board h) (sym is) (c.next_goes_on.ensures.complete board h c.board-board.ensures.valid fits c.requires)
