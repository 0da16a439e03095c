use Rattle.std.proofs.Common.{◌≡◌, ℕ, ◌-◌, length, refl, subst, ◌∙◌, arith}
use Rattle.std.proofs.lemmas.List.{length-map}
use Rattle.board_model.specs.declared.agents.Target.{Target}
use Rattle.board_tree.specs.Chains.{AreChainedFrom}
use Rattle.board_tree.specs.Sites.{buses_of, bus_of_target}
use Rattle.board_tree.proofs.ChainLemmas.{read_bus, linked_none, linked_more}
use Rattle.board_tree.proofs.sites.by_bus.Goals as goal

pub loop-place-init : goal.loop-place-init
loop-place-init c =
    let targets = c.args.targets.now in
    let as_many = length-map targets (λ (target : Target). target.bus) in
    linked_none (length targets) (buses_of targets) c.none-chains.result (omega (arith, as_many)) c.requires c.none-chains.ensures.first c.none-chains.ensures.next

-- one place more
pub loop-place-preserved : goal.loop-place-preserved
loop-place-preserved c =
    let targets = c.args.targets.now in
    let place : ℕ = c.loop-place.place - 1 in
    let as_many = length-map targets (λ (target : Target). target.bus) in
    let is = c.bus_of.ensures ∙ read_bus (λ (target : Target). target.bus) bus_of_target refl (λ _. refl) targets place in
    linked_more c.loop-place.place place c.bus_of.result (buses_of targets) c.loop-place.chains c.put.new.self (omega (arith, c.loop-place-test.true)) (omega (arith, c.loop-place-test.true, as_many)) c.put.ensures.small is
    c.loop-place.invariant c.put.ensures.first c.put.ensures.next

pub returns : goal.returns
returns c =
    let all : c.loop-place.place ≡ 0 = omega (arith, c.loop-place-test.false) in
    subst (λ (n : ℕ). AreChainedFrom n (buses_of c.args.targets.now) c.loop-place.chains) all c.loop-place.invariant.chained
