use Rattle.std.proofs.Common.{ap, sym}
use Rattle.std.proofs.lemmas.Option.{slice_get_past}
use Rattle.board_tree.specs.Sites.{secondary_in}
use Rattle.board_tree.proofs.sites.secondary_at.Goals as goal

pub returns-in-None : goal.returns-in-None
returns-in-None c = sym (ap secondary_in (slice_get_past c.args.bridges.now c.args.place c.in-None.ensures.lookup.3))
