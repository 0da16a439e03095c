use Rattle.std.proofs.Common.{◌∷◌, sym, subst}
use Rattle.board_model.specs.declared.bridge.Place.TheVariants.{Target}
use Rattle.history_model.specs.declared.event.Event.TheVariants.{Act}
use Rattle.bus_targets.specs.State.{TargetView, step_of}
use Rattle.bus_targets.specs.Stands.{TargetStands}
use Rattle.bus_targets.proofs.AnswerLemmas.{same_answer}
use Rattle.bus_targets.proofs.EventLemmas.{stands_after}
use Rattle.bus_targets.proofs.target.TargetState.access.Goals as goal

pub returns-clause-stands : goal.returns-clause-stands
returns-clause-stands c =
    let board = c.args.board.now in
    let old = c.args.self.now in
    let request = c.args.request.now in
    let answer = c.answer-answer.result in
    record {
      answers = λ p on o stands access. same_answer board p old on o request answer c.answer-answer.ensures stands access;
      stands = λ p on by o stands access.
          subst (λ (t : TargetView). TargetStands board (Act on by o (step_of answer) (Target old.target) ∷ p) t) (sym c.change.ensures)
          (stands_after board p on by o old request answer c.answer-answer.ensures stands access);
    }
