use Rattle.std.proofs.Common.{◌≡◌, List, OnOk, subst, ap, ◌∙◌}
use Rattle.board_model.specs.declared.board.Board.{Board}
use Rattle.history_model.specs.declared.item.Move.{Move}
use Rattle.history_model.specs.declared.item.Moved.{Moved}
use Rattle.history_model.specs.declared.rule.Rule.TheVariants.{Tagged}
use Rattle.history_model.specs.World.{world_of}
use Rattle.history_model.specs.Moves.{moved_by, moves_in}
use Rattle.draw_items.specs.declared.journey.Journey.{Journey}
use Rattle.draw_journeys.specs.Steps.{moves_on, next}
use Rattle.draw_journeys.proofs.follow.happen.Goals as goal

pub returns-clause-now : goal.returns-clause-now
returns-clause-now c = λ h stands allowed.
    let board : Board = c.args.tree.now in
    let e = c.args.event.now in
    let js : List Journey = c.args.travel.now.journeys.items in
    let found : c.step_on-found.result ≡ moved_by Tagged board (world_of board h) e = c.step_on-found.ensures.moved h stands allowed in
    let moves : c.as_slice.result.now ≡ moves_in Tagged board e (moved_by Tagged board (world_of board h) e) =
    c.as_slice.ensures.value ∙ c.moves_in-moves.ensures
    ∙ ap (λ (b : Board). moves_in Tagged b e c.step_on-found.result) c.board.ensures.value
    ∙ ap (λ (m : Moved). moves_in Tagged board e m) found in
    let is : moves_on c.args.n c.as_slice.result.now js ≡ next board (world_of board h) c.args.n e js = ap (λ (ms : List Move). moves_on c.args.n ms js) moves in
    subst (λ (new : List Journey). OnOk c.follow.result (c.follow.new.self.journeys.items ≡ new)) is c.follow.ensures.now
