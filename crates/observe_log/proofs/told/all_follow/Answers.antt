use Rattle.std.proofs.Common.{◌≡◌, ℕ, true, false, List, length, get_or, Some, refl, sym, subst, ◌∙◌}
use Rattle.std.specs.List.{slice_get}
use Rattle.std.proofs.lemmas.Option.{slice_get_read}
use Rattle.observe_told.specs.declared.seen.Seen.{Seen}
use Rattle.observe_log.specs.Checks.{is_act}
use Rattle.observe_log.proofs.FollowLemmas.{follow_skip, follow_next}
use Rattle.observe_log.proofs.told.all_follow.Goals as goal

-- an arrival is passed over
pub loop-event-preserved-then-not-is_act : goal.loop-event-preserved-then-not-is_act
loop-event-preserved-then-not-is_act c =
    let events = c.args.events.now in
    let i = c.loop-event.event-index in
    let arrives : is_act (get_or events i _) ≡ false = sym c.is_act.ensures ∙ c.if-not-is_act.true in
    follow_skip c.args.log.now c.args.board.now events c.args.lines.now c.args.shown.now c.loop-event.shown i c.loop-event.acts _ c.loop-event-test.true arrives c.loop-event.invariant

-- an act is one of its line
pub loop-event-preserved : goal.loop-event-preserved
loop-event-preserved c =
    let log = c.args.log.now in
    let events = c.args.events.now in
    let lines = c.args.lines.now in
    let i = c.loop-event.event-index in
    let acts = c.loop-event.acts in
    let n : ℕ = c.in-Some.place.now in
    let seen = c.in-Some-get.seen.now in
    let at = c.in-Some.ensures.lookup in
    let found = c.in-Some-get.ensures.lookup in
    let place : slice_get lines acts ≡ Some n = slice_get_read lines (length lines) acts n refl at.3.0 at.1 in
    let there : slice_get c.as_slice.result.now n ≡ Some seen = slice_get_read c.as_slice.result.now (length c.as_slice.result.now) n seen refl found.3.0 found.1 in
    let in_log : slice_get log.lines n ≡ Some seen = subst (λ (l : List Seen). slice_get l n ≡ Some seen) c.as_slice.ensures there in
    let is : is_act (get_or events i _) ≡ true = sym c.is_act.ensures ∙ c.if-not-is_act.false in
    follow_next log c.args.board.now events lines c.args.shown.now c.loop-event.shown i acts n _ seen _ c.in-Some-act_of.next c.requires.each c.loop-event-test.true is place in_log c.in-Some-act_of.ensures c.loop-event.invariant
