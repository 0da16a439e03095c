use Rattle.std.proofs.Common.{◌≡◌, ℕ, ◌-◌, length, refl, subst, ◌∙◌, arith}
use Rattle.std.proofs.lemmas.List.{length-map}
use Rattle.board_model.specs.declared.bridge.Bridge.{Bridge}
use Rattle.board_tree.specs.Chains.{AreChainedFrom}
use Rattle.board_tree.specs.Sites.{secondaries_of, secondary_in}
use Rattle.board_tree.proofs.ChainLemmas.{read_bus, linked_none, linked_more}
use Rattle.board_tree.proofs.sites.by_secondary.Goals as goal

pub loop-place-init : goal.loop-place-init
loop-place-init c =
    let bridges = c.args.bridges.now in
    let as_many = length-map bridges (λ (bridge : Bridge). bridge.bus) in
    linked_none (length bridges) (secondaries_of bridges) c.none-chains.result (omega (arith, as_many)) c.requires c.none-chains.ensures.first c.none-chains.ensures.next

-- one place more
pub loop-place-preserved : goal.loop-place-preserved
loop-place-preserved c =
    let bridges = c.args.bridges.now in
    let place : ℕ = c.loop-place.place - 1 in
    let as_many = length-map bridges (λ (bridge : Bridge). bridge.bus) in
    let is = c.secondary_at.ensures ∙ read_bus (λ (bridge : Bridge). bridge.bus) secondary_in refl (λ _. refl) bridges place in
    linked_more c.loop-place.place place c.secondary_at.result (secondaries_of bridges) c.loop-place.chains c.put.new.self (omega (arith, c.loop-place-test.true)) (omega (arith, c.loop-place-test.true, as_many)) c.put.ensures.small is
    c.loop-place.invariant c.put.ensures.first c.put.ensures.next

pub returns : goal.returns
returns c =
    let all : c.loop-place.place ≡ 0 = omega (arith, c.loop-place-test.false) in
    subst (λ (n : ℕ). AreChainedFrom n (secondaries_of c.args.bridges.now) c.loop-place.chains) all c.loop-place.invariant.chained
