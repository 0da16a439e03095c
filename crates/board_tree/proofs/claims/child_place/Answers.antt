use Rattle.std.proofs.Common.{◌<◌, slice_get, arith}
use Rattle.std.proofs.lemmas.List.{length-map}
use Rattle.board_model.specs.declared.bridge.Bridge.{Bridge}
use Rattle.board_model.specs.Claims.{decodes_down}
use Rattle.board_tree.proofs.WalkLemmas.{decodes_elsewhere, held_no, held_yes, held_none, walk_begins, walk_goes_on}
use Rattle.board_tree.proofs.claims.child_place.Goals as goal

pub loop-place-init : goal.loop-place-init
loop-place-init c =
    let bus = c.args.bus in
    let small : bus < 256 = omega arith in
    let walk =
    walk_begins (λ (bridge : Bridge). bridge.parent) (decodes_down bus c.args.space c.args.address) c.args.bridges.now c.args.chains.now bus c.first_of-place.result c.requires small
    (decodes_elsewhere bus c.args.space c.args.address) c.first_of-place.ensures in
    record { fails = walk.0; on = walk.1 }

pub next_of-place-requires : goal.next_of-place-requires
next_of-place-requires c = omega (arith, c.requires.few, length-map c.args.bridges.now (λ (bridge : Bridge). bridge.parent), c.loop-place-test.true)

pub loop-place-preserved : goal.loop-place-preserved
loop-place-preserved c =
    let bus = c.args.bus in
    let here = held_no bus c.args.space c.args.address (slice_get c.args.bridges.now c.loop-place.place) c.holds_at.result c.holds_at.ensures c.if-holds_at.false in
    let walk =
    walk_goes_on (λ (bridge : Bridge). bridge.parent) (decodes_down bus c.args.space c.args.address) c.args.bridges.now c.args.chains.now bus c.loop-place.place c.next_of-place.result c.requires
    (decodes_elsewhere bus c.args.space c.args.address) c.loop-place-test.true c.loop-place.invariant.fails c.loop-place.invariant.on here c.next_of-place.ensures in
    record { fails = walk.1; on = walk.2 }

pub loop-place-smaller : goal.loop-place-smaller
loop-place-smaller c =
    let bus = c.args.bus in
    let here = held_no bus c.args.space c.args.address (slice_get c.args.bridges.now c.loop-place.place) c.holds_at.result c.holds_at.ensures c.if-holds_at.false in
    let walk =
    walk_goes_on (λ (bridge : Bridge). bridge.parent) (decodes_down bus c.args.space c.args.address) c.args.bridges.now c.args.chains.now bus c.loop-place.place c.next_of-place.result c.requires
    (decodes_elsewhere bus c.args.space c.args.address) c.loop-place-test.true c.loop-place.invariant.fails c.loop-place.invariant.on here c.next_of-place.ensures in
    omega (arith, walk.0, c.loop-place-test.true)

pub returns-then-holds_at : goal.returns-then-holds_at
returns-then-holds_at c =
    held_yes c.args.bus c.args.space c.args.address c.args.bridges.now c.loop-place.place c.holds_at.result c.loop-place.invariant.fails c.loop-place.invariant.on c.loop-place-test.true c.holds_at.ensures
    c.if-holds_at.true

pub returns : goal.returns
returns c = held_none (decodes_down c.args.bus c.args.space c.args.address) c.args.bridges.now c.loop-place.place c.loop-place.invariant.fails c.loop-place-test.false
