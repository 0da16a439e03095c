use Rattle.std.proofs.Common.{refl, subst}
use Rattle.board_model.specs.declared.board.Board.{Board}
use Rattle.history_model.specs.Runs.{history_of}
use Rattle.draw_told.specs.Kept.{TellsTouches}
use Rattle.draw_told.proofs.told.told_behind.Goals as goal

pub returns : goal.returns
returns c =
    let h = history_of c.args.events.now in
    let landed = subst (λ (b : Board). TellsTouches b h c.note_all.new.landed) c.board.ensures.value c.in_ok-note_all.ensures.landed in
    c.told_by.ensures c.args.tree.now c.args.events.now c.in_ok-note_all.ensures.ends landed c.in_ok-found.ensures refl
