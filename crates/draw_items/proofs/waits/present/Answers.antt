use Rattle.std.proofs.Common.{◌≡◌, ◌<◌, ℕ, length, Some, None, sym, ap, subst, ◌∙◌, arith, get_or, slice_set}
use Rattle.std.specs.List.{position_from}
use Rattle.std.proofs.Math.ListN.{set}
use Rattle.audit_clocks.specs.Tables.{value_of}
use Rattle.draw_items.specs.declared.waits.Wait.{Wait}
use Rattle.draw_items.specs.Kept.{is_wait_of, TellsPlaces}
use Rattle.draw_items.proofs.WaitLemmas.{Again, with_last, again_from, new_from, places_push, places_set}
use Rattle.draw_items.proofs.waits.present.Goals as goal

pub returns-then-place-len-clause-waits : goal.returns-then-place-len-clause-waits
returns-then-place-len-clause-waits c =
    let waits = c.args.waits.now.items in
    let o = c.args.op in
    let n = c.args.n in
    let place = c.in-Some.place in
    let d = c.index_mut.result.now in
    let found : position_from (is_wait_of o) 0 waits ≡ Some place = sym (c.requires.each o) ∙ sym c.get.ensures ∙ sym c.copied.ensures ∙ c.in-Some.is in
    let again : Again n o waits 0 place = again_from n o waits 0 place found in
    let same : place ≡ again.at = omega (arith, again.place) in
    ap (λ (w : Wait). slice_set waits place (with_last n w)) c.index_mut.ensures.value ∙ ap (λ (k : ℕ). set waits k (with_last n (get_or waits k d))) same ∙ sym (again.is d)

pub returns-then-place-len-clause-places : goal.returns-then-place-len-clause-places
returns-then-place-len-clause-places c =
    let waits = c.args.waits.now.items in
    let o = c.args.op in
    let n = c.args.n in
    let place = c.in-Some.place in
    let d = c.index_mut.result.now in
    let within : place < length waits = omega (arith, c.if-place-len.true, c.len.ensures) in
    places_set waits place (with_last n d) d c.args.places.now c.requires within (ap (λ (w : Wait). w.op) c.index_mut.ensures.value)

pub returns-else-place-len-clause-waits : goal.returns-else-place-len-clause-waits
returns-else-place-len-clause-waits c =
    let waits = c.args.waits.now.items in
    let o = c.args.op in
    let place = c.in-Some.place in
    let found : position_from (is_wait_of o) 0 waits ≡ Some place = sym (c.requires.each o) ∙ sym c.get.ensures ∙ sym c.copied.ensures ∙ c.in-Some.is in
    let again : Again c.args.n o waits 0 place = again_from c.args.n o waits 0 place found in
    absurd (omega (arith, again.place, again.within, c.if-place-len.false, c.len.ensures))

pub returns-in_ok-push-in-None-clause-waits : goal.returns-in_ok-push-in-None-clause-waits
returns-in_ok-push-in-None-clause-waits c =
    let waits = c.args.waits.now.items in
    let o = c.args.op in
    let none : position_from (is_wait_of o) 0 waits ≡ None = sym (c.requires.each o) ∙ sym c.get.ensures ∙ sym c.copied.ensures ∙ c.in-None.is in
    c.in_ok-push-in-None.ensures.items ∙ sym (new_from c.args.n o waits 0 none)

pub returns-in_ok-push-in-None-clause-places : goal.returns-in_ok-push-in-None-clause-places
returns-in_ok-push-in-None-clause-places c =
    let waits = c.args.waits.now.items in
    let o = c.args.op in
    let none : value_of o c.args.places.now ≡ None = sym c.get.ensures ∙ sym c.copied.ensures ∙ c.in-None.is in
    let counted : c.len-in-None.result ≡ length waits = omega (arith, c.len-in-None.ensures) in
    let pushed = places_push waits o c.args.n c.args.places.now c.put.new.self c.requires none (rw counted at c.in_ok-put-in-None.ensures) in
    subst (λ l. TellsPlaces l c.put.new.self) (sym c.in_ok-push-in-None.ensures.items) pushed
