use Rattle.std.proofs.Common.{◌≡◌, ◌<◌, List, length, get_or, sym, subst}
use Rattle.board_writes.specs.declared.writers.write.WordWrite.{WordWrite}
use Rattle.board_writes.proofs.RaisingLemmas.{found_none, found_on, Found}
use Rattle.board_writes.proofs.writers.run.Run.put_raising.Goals as goal

pub loop-write-init : goal.loop-write-init
loop-write-init c = found_none c.args.awaited c.args.self.now c.args.found.now.items c.place_raising-place.result c.place_raising-place.ensures.within c.place_raising-place.ensures.place

pub loop-write-preserved : goal.loop-write-preserved
loop-write-preserved c =
    subst (Found c.args.awaited c.args.self.now c.args.found.now.items c.place_raising-place-in-Some.result) (sym c.in_ok-push_if.ensures)
    (found_on c.args.awaited c.args.self.now c.args.found.now.items c.loop-write.place c.place_raising-place-in-Some.result c.in-Some.write.now c.in-Some.write.now c.loop-write.found.items c.is_raised_by.result
    (subst (λ (ws : List WordWrite). c.loop-write.place < length ws) c.as_slice.ensures c.in-Some.ensures.lookup.3.0)
    (subst (λ (ws : List WordWrite). c.in-Some.write.now ≡ get_or ws c.loop-write.place c.in-Some.write.now) c.as_slice.ensures c.in-Some.ensures.lookup.1)
    (sym c.is_raised_by.ensures) c.place_raising-place-in-Some.ensures.within c.place_raising-place-in-Some.ensures.place c.loop-write.invariant)
