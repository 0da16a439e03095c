use Rattle.std.proofs.Common.{◌<◌, slice_get, sym, arith}
use Rattle.std.proofs.lemmas.List.{length-map}
use Rattle.board_model.specs.declared.agents.Target.{Target}
use Rattle.board_tree.proofs.WalkLemmas.{claims, claims_elsewhere, looked_no, looked_yes, no_place, walk_begins, walk_goes_on}
use Rattle.board_tree.proofs.claims.target_at.Goals as goal

pub loop-place-init : goal.loop-place-init
loop-place-init c =
    let bus = c.args.bus in
    let small : bus < 256 = omega arith in
    let walk =
    walk_begins (λ (target : Target). target.bus) (claims bus c.args.space c.args.address) c.args.targets.now c.args.chains.now bus c.first_of-place.result c.requires small
    (claims_elsewhere bus c.args.space c.args.address) c.first_of-place.ensures in
    record { fails = walk.0; on = walk.1 }

pub next_of-place-requires : goal.next_of-place-requires
next_of-place-requires c = omega (arith, c.requires.few, length-map c.args.targets.now (λ (target : Target). target.bus), c.loop-place-test.true)

pub loop-place-preserved : goal.loop-place-preserved
loop-place-preserved c =
    let bus = c.args.bus in
    let here = looked_no bus c.args.space c.args.address (slice_get c.args.targets.now c.loop-place.place) c.claims_at.result c.claims_at.ensures c.if-claims_at.false in
    let walk =
    walk_goes_on (λ (target : Target). target.bus) (claims bus c.args.space c.args.address) c.args.targets.now c.args.chains.now bus c.loop-place.place c.next_of-place.result c.requires
    (claims_elsewhere bus c.args.space c.args.address) c.loop-place-test.true c.loop-place.invariant.fails c.loop-place.invariant.on here c.next_of-place.ensures in
    record { fails = walk.1; on = walk.2 }

pub loop-place-smaller : goal.loop-place-smaller
loop-place-smaller c =
    let bus = c.args.bus in
    let here = looked_no bus c.args.space c.args.address (slice_get c.args.targets.now c.loop-place.place) c.claims_at.result c.claims_at.ensures c.if-claims_at.false in
    let walk =
    walk_goes_on (λ (target : Target). target.bus) (claims bus c.args.space c.args.address) c.args.targets.now c.args.chains.now bus c.loop-place.place c.next_of-place.result c.requires
    (claims_elsewhere bus c.args.space c.args.address) c.loop-place-test.true c.loop-place.invariant.fails c.loop-place.invariant.on here c.next_of-place.ensures in
    omega (arith, walk.0, c.loop-place-test.true)

pub returns-then-claims_at : goal.returns-then-claims_at
returns-then-claims_at c =
    looked_yes c.args.bus c.args.space c.args.address c.args.targets.now c.loop-place.place c.claims_at.result c.loop-place.invariant.fails c.loop-place.invariant.on c.loop-place-test.true c.claims_at.ensures
    c.if-claims_at.true

pub returns : goal.returns
returns c = sym (no_place (claims c.args.bus c.args.space c.args.address) c.args.targets.now 0 c.loop-place.place c.loop-place.invariant.fails c.loop-place-test.false)
