use Rattle.std.proofs.Common.{List, length, ap, subst, arith}
use Rattle.board_model.specs.declared.agents.Target.{Target}
use Rattle.board_model.specs.declared.bridge.Bridge.{Bridge}
use Rattle.board_tree.specs.Chains.{AreChained}
use Rattle.board_tree.specs.Sites.{buses_of, primaries_of, secondaries_of}
use Rattle.board_tree.proofs.sites.Sites.of.Goals as goal

pub by_bus-requires : goal.by_bus-requires
by_bus-requires c = omega (arith, ap (λ (targets : List Target). length targets) c.as_slice-targets.ensures, c.requires.few_targets)

pub by_primary-requires : goal.by_primary-requires
by_primary-requires c = omega (arith, ap (λ (bridges : List Bridge). length bridges) c.as_slice-bridges.ensures, c.requires.few_bridges)

pub by_secondary-requires : goal.by_secondary-requires
by_secondary-requires c = omega (arith, ap (λ (bridges : List Bridge). length bridges) c.as_slice-bridges.ensures, c.requires.few_bridges)

pub returns : goal.returns
returns c = record {
  targets = subst (λ (targets : List Target). AreChained (buses_of targets) c.by_bus.result) c.as_slice-targets.ensures c.by_bus.ensures;
  below = subst (λ (bridges : List Bridge). AreChained (primaries_of bridges) c.by_primary.result) c.as_slice-bridges.ensures c.by_primary.ensures;
  above = subst (λ (bridges : List Bridge). AreChained (secondaries_of bridges) c.by_secondary.result) c.as_slice-bridges.ensures c.by_secondary.ensures;
}
