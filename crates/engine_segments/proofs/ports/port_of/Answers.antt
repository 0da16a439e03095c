use Rattle.std.proofs.Common.{sym, ap, ◌∙◌}
use Rattle.std.specs.Option.{option_copied}
use Rattle.list_facts.proofs.AnyLemmas.{any_some}
use Rattle.board_model.specs.WellFormed.{has_bus}
use Rattle.engine_segments.proofs.PortLemmas.{found_some, found_formed}
use Rattle.engine_segments.proofs.ports.port_of.Goals as goal

pub unwrap-bridge-requires : goal.unwrap-bridge-requires
unwrap-bridge-requires c =
    let found = any_some (has_bus c.args.lane.bus) c.args.board.now.bridges c.requires.bridge in
    found_some c.bridge_to.result found.0 (c.bridge_to.ensures ∙ found.1)

pub new-requires-clause-posted : goal.new-requires-clause-posted
new-requires-clause-posted c =
    let form = found_formed c.args.board.now c.args.lane.bus c.unwrap-bridge.result.now c.requires.formed (sym c.bridge_to.ensures ∙ ap option_copied c.unwrap-bridge.ensures) in
    (form.posted.from, form.posted.to)

pub new-requires-clause-delayed : goal.new-requires-clause-delayed
new-requires-clause-delayed c =
    let form = found_formed c.args.board.now c.args.lane.bus c.unwrap-bridge.result.now c.requires.formed (sym c.bridge_to.ensures ∙ ap option_copied c.unwrap-bridge.ensures) in
    (form.delayed.from, form.delayed.to)
