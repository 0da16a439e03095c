use Rattle.std.proofs.Common.{◌≡◌, Option, Some, sym, ap, subst, ◌∙◌}
use Rattle.history_model.specs.declared.item.Carried.{Carried}
use Rattle.judge_state.specs.State.{KeptState}
use Rattle.run_waves.specs.Shown.{past, next, item_by}
use Rattle.run_waves.specs.Scenes.{IsAt}
use Rattle.run_waves.proofs.WatchLemmas.{at_next, came_is}
use Rattle.run_waves.proofs.watch.Watch.happen.Goals as goal

pub returns-in-Ok : goal.returns-in-Ok
returns-in-Ok c = λ m at allowed.
    let board = c.args.tree.now in
    let e = c.args.event.now in
    let old = c.args.self.now in
    let after = c.step.new.self in
    let new = c.note.new.self in
    let stands = c.in-Ok.ensures.goes_on (past m) at.stands in
    let item : c.came_in.result ≡ item_by board (past m) e = c.came_in.ensures ∙ came_is board (past m) e c.in-Ok.found (c.in-Ok.ensures.moved (past m) at.stands) in
    let scene = c.note.ensures.scene ∙ ap (λ (i : Option Carried). Some (record { event = e; item = i })) item in
    let there : IsAt board (next m e) after new.waits.items new.scene = at_next board m e old.kept after old.waits.items new.waits.items old.scene new.scene at allowed stands c.note.ensures.waits scene in
    subst (λ (k : KeptState). IsAt board (next m e) k new.waits.items new.scene) (sym c.note.ensures.kept) there
