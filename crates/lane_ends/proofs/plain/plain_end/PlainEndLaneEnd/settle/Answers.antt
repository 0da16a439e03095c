use Rattle.std.proofs.Common.{◌≡◌, List, ◌++◌, length, ap, arith, ◌∙◌}
use Rattle.lane_items.specs.declared.item.Item.{Item}
use Rattle.lane_ends.specs.plain.Plain.{PlainState, had_in}
use Rattle.lane_ends.proofs.plain.PlainLemmas.{plain_fits, plain_crosses}
use Rattle.lane_ends.proofs.plain.plain_end.PlainEndLaneEnd.settle.Goals as goal

pub refill-requires-2 : goal.refill-requires-2
refill-requires-2 c =
    let a = c.args.a.now in
    let b = c.args.b.now in
    let room = plain_fits a.got a.hand a.sent b.got b.hand b.sent c.requires.fits in
    let sent : c.sent-2.result.now ≡ a.sent = c.sent-2.ensures ∙ ap (λ (end : PlainState). end.sent) c.refill.ensures in
    omega (arith, room.0, ap length sent)

pub returns-clause-to_b : goal.returns-clause-to_b
returns-clause-to_b c =
    let a = c.args.a.now in
    let b = c.args.b.now in
    let sent : c.sent-2.result.now ≡ a.sent = c.sent-2.ensures ∙ ap (λ (end : PlainState). end.sent) c.refill.ensures in
    plain_crosses b.got b.hand a.sent (had_in c.forget_sent-2.new.self)
    (ap had_in c.forget_sent-2.ensures ∙ (ap had_in c.refill-2.ensures ∙ ap (λ (items : List Item). b.hand ++ items) sent))

pub returns-clause-to_a : goal.returns-clause-to_a
returns-clause-to_a c =
    let a = c.args.a.now in
    let b = c.args.b.now in
    plain_crosses a.got a.hand b.sent (had_in c.forget_sent.new.self)
    (ap had_in c.forget_sent.ensures ∙ (ap had_in c.refill.ensures ∙ ap (λ (items : List Item). a.hand ++ items) c.sent.ensures))
