use Rattle.std.proofs.Common.{List, ap, find, subst, sym, ◌∙◌}
use Rattle.board_model.specs.declared.bridge.Bridge.{Bridge}
use Rattle.board_model.specs.Claims.{decodes_down}
use Rattle.board_tree.specs.Chains.{AreChained}
use Rattle.board_tree.specs.Sites.{primaries_of}
use Rattle.board_tree.proofs.claims.child_holding.Goals as goal

pub child_place-place-requires : goal.child_place-place-requires
child_place-place-requires c =
    subst (λ (bridges : List Bridge). AreChained (primaries_of bridges) c.args.sites.now.below) (sym c.as_slice-bridges.ensures) c.requires.below

pub returns : goal.returns
returns c =
    c.bridge_at.ensures ∙ (c.child_place-place.ensures ∙ ap (λ (bridges : List Bridge). find (decodes_down c.args.bus c.args.space c.args.address) bridges) c.as_slice-bridges.ensures)
