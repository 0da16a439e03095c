use Rattle.std.proofs.Common.{List, ap, subst, sym, ◌∙◌}
use Rattle.std.specs.List.{position_from}
use Rattle.board_model.specs.declared.agents.Target.{Target}
use Rattle.board_tree.specs.Chains.{AreChained}
use Rattle.board_tree.specs.Sites.{buses_of}
use Rattle.board_tree.proofs.WalkLemmas.{claims}
use Rattle.board_tree.proofs.claims.target_on.Goals as goal

pub target_at-requires : goal.target_at-requires
target_at-requires c =
    subst (λ (targets : List Target). AreChained (buses_of targets) c.args.sites.now.targets) (sym c.as_slice-targets.ensures) c.requires.targets

pub returns : goal.returns
returns c =
    c.target_at.ensures ∙ ap (λ (targets : List Target). position_from (claims c.args.bus c.args.space c.args.address) 0 targets) c.as_slice-targets.ensures
