use Rattle.std.proofs.Common.{◌∷◌, sym, subst}
use Rattle.history_model.specs.declared.event.By.TheVariants.{Master}
use Rattle.history_model.specs.declared.event.Event.TheVariants.{Act}
use Rattle.bus_agents.specs.Turns.{MasterView, MasterStands}
use Rattle.bus_agents.proofs.TurnLemmas.{ends_turn}
use Rattle.bus_agents.proofs.master.MasterState.ended.Goals as goal

pub returns-clause-stands : goal.returns-clause-stands
returns-clause-stands c =
    let board = c.args.board.now in
    record {
      stands = λ p on o step place stands turn out.
          subst (λ (m : MasterView). MasterStands board (Act on Master o step place ∷ p) m) (sym c.go_on.ensures)
          (record { turn = ends_turn board p c.args.self.now c.args.outcome on o step place stands turn out });
    }
