use Rattle.std.proofs.Common.{◌≡◌, ◌+◌, ◌∷◌, ◌∙◌, ap, length, sym, subst}
use Rattle.board_model.specs.declared.board.Board.{Board}
use Rattle.history_model.specs.declared.event.Event.{Event}
use Rattle.history_model.specs.declared.rule.Rule.TheVariants.{Untagged}
use Rattle.history_model.specs.World.{world_by}
use Rattle.history_model.specs.Moves.{moved_by}
use Rattle.judge_state.specs.State.{KeptState}
use Rattle.judge_state.specs.Stands.{StandsForBy}
use Rattle.untagged_run.specs.declared.made.EventMade.{EventMade}
use Rattle.untagged_run.specs.Gots.{made_now}
use Rattle.untagged_run.specs.Course.{CourseState, IsCourse, GoesOn}
use Rattle.untagged_run.proofs.StepLemmas.{goes_on}
use Rattle.untagged_run.proofs.course.UntaggedCourse.step.Goals as goal

pub returns-in_ok-note-in-Ok-clause-goes_on : goal.returns-in_ok-note-in-Ok-clause-goes_on
returns-in_ok-note-in-Ok-clause-goes_on c = λ h is.
    let board : Board = c.args.tree.now in
    let e : Event = c.args.event.now in
    let old : CourseState = record { kept = c.self.inside.kept; origins = c.self.inside.origins; gots = c.self.inside.gots.items } in
    let made : EventMade = c.made-made.result in
    let was : IsCourse board h old = subst (IsCourse board h) (sym c.self.view_is) is in
    let stands : StandsForBy Untagged board (e ∷ h) c.step_by_rule.new.self = c.in-Ok.ensures.goes_on Untagged h was.stands in
    let found : c.in-Ok.found ≡ moved_by Untagged board (world_by Untagged board h) e = c.in-Ok.ensures.moved Untagged h was.stands in
    let kept = c.in_ok-note-in-Ok.ensures.kept in
    let new : CourseState = c.note.new.self in
    let makes : made ≡ made_now board old.origins (length old.gots + 1) e c.in-Ok.found =
    c.made-made.ensures ∙ ap (λ (b : Board). made_now b old.origins (length old.gots + 1) e c.in-Ok.found) c.board.ensures.value in
    let goes : GoesOn board h e old new =
    goes_on board h e old new c.in-Ok.found made was (subst (λ (k : KeptState). StandsForBy Untagged board (e ∷ h) k) (sym kept) stands) found makes c.in_ok-note-in-Ok.ensures.origins c.in_ok-note-in-Ok.ensures.gots in
    subst (λ (s : CourseState). GoesOn board h e s new) c.self.view_is goes
