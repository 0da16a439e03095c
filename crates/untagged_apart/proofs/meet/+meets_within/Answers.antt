use Rattle.std.proofs.Common.{◌-◌, ◌||◌, Bool, sym, ap, ◌∙◌, arith}
use Rattle.std.specs.List.{list_any}
use Rattle.board_model.specs.declared.bridge.Lane.{Lane as BridgeLane}
use Rattle.board_model.specs.Claims.{claim}
use Rattle.board_model.specs.Ways.{route_within, end_of}
use Rattle.law_untagged.specs.ApartTest.{meets_on}
use Rattle.untagged_apart.proofs.LookLemmas.{step_any}
use Rattle.untagged_apart.proofs.meet.+meets_within.Goals as goal

pub returns-else-meets_on : goal.returns-else-meets_on
returns-else-meets_on t c =
    let test : BridgeLane → Bool = meets_on c.args.board.now c.args.op.now c.args.other_on c.args.other.now in
    let claims = ap (claim c.args.board.now c.args.on) (sym c.request_on.ensures) ∙ sym c.claim.ensures ∙ c.in-Lane.is in
    let step = step_any c.args.board.now c.args.op.now c.args.on c.args.most c.in-Lane.lane test (omega (arith, c.if-most-eq0.false)) claims in
    let here = sym c.meets_on.ensures ∙ c.if-meets_on.false in
    c.meets_within.ensures ∙ ap (λ on. list_any test (route_within (c.args.most - 1) c.args.board.now c.args.op.now on).lanes) c.end_of.ensures
    ∙ sym (step ∙ ap (λ b. b || list_any test (route_within (c.args.most - 1) c.args.board.now c.args.op.now (end_of c.args.board.now c.in-Lane.lane)).lanes) here)
