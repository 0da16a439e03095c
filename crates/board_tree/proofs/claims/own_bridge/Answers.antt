use Rattle.std.proofs.Common.{◌<◌, List, slice_get, ap, ◌∙◌, arith}
use Rattle.board_model.specs.declared.bridge.Bridge.{Bridge}
use Rattle.board_tree.proofs.WalkLemmas.{own_found}
use Rattle.board_tree.proofs.claims.own_bridge.Goals as goal

pub returns : goal.returns
returns c =
    let bridges = c.args.board.now.bridges in
    let small : c.args.bus < 256 = omega arith in
    let found = own_found bridges c.args.sites.now.above c.args.bus c.first_of-place.result c.requires.above small c.first_of-place.ensures in
    c.bridge_at.ensures ∙ (ap (λ (all : List Bridge). slice_get all c.first_of-place.result) c.as_slice-bridges.ensures ∙ found)
