use Rattle.std.proofs.Common.{ap, sym}
use Rattle.std.proofs.lemmas.Option.{slice_get_past}
use Rattle.board_tree.specs.Sites.{bus_of_target}
use Rattle.board_tree.proofs.sites.bus_of.Goals as goal

pub returns-in-None : goal.returns-in-None
returns-in-None c = sym (ap bus_of_target (slice_get_past c.args.targets.now c.args.place c.in-None.ensures.lookup.3))
