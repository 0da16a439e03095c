use Rattle.std.proofs.Common.{refl, length}
use Rattle.audit_landings.proofs.TellLemmas.{told_next}
use Rattle.audit_landings.proofs.told.told_further.Goals as goal

pub returns-clause-stands : goal.returns-clause-stands
returns-clause-stands c =
    (told_next c.args.whole.now c.args.starts.now c.args.writes.now c.args.told c.requires c.tell_all.new.numbers c.tell_all-2.new.numbers c.new-waiting.result.items c.tell_all.new.waiting.items c.tell_all-2.new.waiting.items
    c.as_slice.result.now c.split_at.result.1.now c.new-waiting.ensures.items c.as_slice.ensures.value c.split_at.ensures.back c.in_ok-tell_all.ensures.told c.in_ok-tell_all.ensures.waiting c.in_ok-tell_all-2.ensures.told c.in_ok-tell_all-2.ensures.waiting
    (record { count = length c.args.writes.now; numbers = c.tell_all-2.new.numbers; waiting = c.tell_all-2.new.waiting }) refl refl refl).stands

pub returns-clause-tells : goal.returns-clause-tells
returns-clause-tells c =
    (told_next c.args.whole.now c.args.starts.now c.args.writes.now c.args.told c.requires c.tell_all.new.numbers c.tell_all-2.new.numbers c.new-waiting.result.items c.tell_all.new.waiting.items c.tell_all-2.new.waiting.items
    c.as_slice.result.now c.split_at.result.1.now c.new-waiting.ensures.items c.as_slice.ensures.value c.split_at.ensures.back c.in_ok-tell_all.ensures.told c.in_ok-tell_all.ensures.waiting c.in_ok-tell_all-2.ensures.told c.in_ok-tell_all-2.ensures.waiting
    (record { count = length c.args.writes.now; numbers = c.tell_all-2.new.numbers; waiting = c.tell_all-2.new.waiting }) refl refl refl).tells
