use Rattle.std.proofs.Common.{◌∷◌, List, ℕ, sym, subst}
use Rattle.history_model.specs.declared.event.Step.TheVariants.{Part}
use Rattle.history_model.specs.declared.event.Event.TheVariants.{Act}
use Rattle.bus_agents.specs.Through.{ThroughStands}
use Rattle.bus_agents.proofs.ThroughLemmas.{part_stands}
use Rattle.bus_agents.proofs.through.Through.part.Goals as goal

pub returns-clause-stands : goal.returns-clause-stands
returns-clause-stands c =
    record {
      stands = λ board p on by place op stands is once.
          subst (λ (gone : List (List ℕ)). ThroughStands board (Act on by c.args.op (Part c.args.phases) place ∷ p) gone) (sym c.add.ensures)
          (part_stands board p on by c.args.op c.args.phases place op c.args.self.now stands is once);
    }
