use Rattle.std.proofs.Common.{◌≡◌, Option, Some, None, ap, subst, sym, ◌∙◌}
use Rattle.std.specs.Prelude.{IfSome, IfNone}
use Rattle.pci_command.specs.declared.op_id.OpId.{OpId}
use Rattle.board_model.specs.declared.board.Board.{Board}
use Rattle.board_model.specs.declared.bridge.Place.{Place}
use Rattle.history_model.specs.declared.event.By.TheVariants.{Master}
use Rattle.history_model.specs.declared.event.Step.{Step}
use Rattle.history_model.specs.declared.event.Event.{Event}
use Rattle.history_model.specs.declared.event.Event.TheVariants.{Act}
use Rattle.history_model.specs.Program.{turn_of}
use Rattle.history_model.specs.Runs.{Allowed}
use Rattle.history_model.specs.Next.{act_of_turn}
use Rattle.judge_next.specs.Now.{master_now}
use Rattle.judge_next.proofs.SameLemmas.{master_same}
use Rattle.judge_next.proofs.AllowedLemmas.{turn_allowed, master_none}
use Rattle.judge_next.proofs.course.Course.act_of_master.Goals as goal

pub returns-clause-act : goal.returns-clause-act
returns-clause-act c = λ h is.
    c.act_of_master.ensures
    ∙ (ap (λ (board : Board). master_now board c.args.self.now.kept c.args.bus c.args.master) c.board.ensures.value
    ∙ master_same c.args.tree.now h c.args.self.now.kept is.stands c.args.bus c.args.master)

pub returns-clause-allowed : goal.returns-clause-allowed
returns-clause-allowed c = λ h is.
    subst (λ (some : Option Event). IfSome some (Allowed c.args.tree.now h)) (sym (returns-clause-act c h is)) (turn_allowed c.args.tree.now h c.args.bus (turn_of c.args.tree.now h c.args.master))

pub returns-clause-none : goal.returns-clause-none
returns-clause-none c = λ h is.
    let None_of : Type 0 = (o : OpId) (step : Step) (place : Place) → o.master ≡ c.args.master → Allowed c.args.tree.now h (Act c.args.bus Master o step place) → ⊥ in
    let P : Option Event → Type 0 = λ found. found ≡ act_of_turn c.args.tree.now h c.args.bus (turn_of c.args.tree.now h c.args.master) → IfNone found None_of in
    (elim c.act_of_master.result as P [
      | None ↦ λ none. master_none c.args.tree.now h c.args.bus c.args.master (sym none)
      | Some e ↦ λ _. tt
    ]) (returns-clause-act c h is)
