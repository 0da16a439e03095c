use Rattle.std.proofs.Common.{◌≡◌, ◌<◌, None, get_or, ap, ◌∙◌, arith}
use Rattle.std.specs.Prelude.{is_some}
use Rattle.board_model.specs.Valid.{has_bridge_to}
use Rattle.trace_reader.specs.lines.Names.{above}
use Rattle.trace_reader.proofs.lines.NameLemmas.{above_some}
use Rattle.trace_reader.proofs.lines.names.Names.has_bridge_to.Goals as goal

pub returns : goal.returns
returns c =
    let small : c.args.bus < 256 = omega arith in
    let at : get_or c.self.inside.above c.from.result None ≡ above c.self.inside.board.now c.args.bus = rw c.from.ensures (c.self.invariant.bridges c.args.bus small) in
    c.is_some.ensures ∙ ap is_some at ∙ above_some c.self.inside.board.now c.args.bus ∙ ap (λ board. has_bridge_to board c.args.bus) c.self.view_is
