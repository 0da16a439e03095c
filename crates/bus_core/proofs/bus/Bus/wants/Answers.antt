use Rattle.std.proofs.Common.{List, ap, subst, ◌∙◌}
use Rattle.bus_agents.specs.Turns.{MasterView}
use Rattle.bus_core.specs.Bus.{BusView}
use Rattle.bus_core.specs.Places.{WantsAt}
use Rattle.bus_core.proofs.bus.Bus.wants.Goals as goal

pub returns : goal.returns
returns c =
    subst (λ (masters : List MasterView). WantsAt c.args.place masters c.want_at.result) (c.as_slice.ensures.value ∙ ap (λ (s : BusView). s.masters) c.self.view_is) c.want_at.ensures
