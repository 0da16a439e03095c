use Rattle.std.proofs.Common.{◌≡◌, ◌≤◌, length, take, List, subst, ◌∙◌, ap}
use Rattle.std.specs.Prelude.{map}
use Rattle.board_model.specs.declared.agents.Master.{Master}
use Rattle.std.proofs.lemmas.List.{take_all}
use Rattle.machine_steps.specs.Counts.{none_of_any}
use Rattle.bus_agents.proofs.ThroughLemmas.{none_bytes}
use Rattle.bus_agents.proofs.through.Through.nothing.Goals as goal

pub invariant_of-result : goal.invariant_of-result
invariant_of-result c =
    let masters = c.args.board.now.masters in
    let L : List Master → Type 0 = λ l. length l ≤ c.loop-master.master-index in
    let past : L masters = subst L c.as_slice-master-items.ensures c.loop-master-test.false in
    let all : take c.loop-master.master-index masters ≡ masters = take_all c.loop-master.master-index masters past in
    none_bytes c.args.board.now c.loop-master.gone.items (c.loop-master.invariant ∙ ap (map (λ (m : Master). none_of_any m.ops)) all)
