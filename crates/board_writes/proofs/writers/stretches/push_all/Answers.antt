use Rattle.std.proofs.Common.{false, get_or, refl}
use Rattle.board_writes.specs.declared.writers.write.WordWrite.{WordWrite}
use Rattle.board_writes.proofs.StretchLemmas.{none_made, made_on, made_over}
use Rattle.board_writes.proofs.writers.stretches.push_all.Goals as goal

pub loop-write-init : goal.loop-write-init
loop-write-init c = none_made c.args.writes.now c.args.runs.now.items c.requires

pub loop-write-preserved : goal.loop-write-preserved
loop-write-preserved c =
    let d : WordWrite = record { op = record { master = 0; index = 0; attempt = 0 }; phase = record { value = 0; enables = 0 }; posted = false; last = false } in
    made_on c.args.writes.now c.loop-write.write-index d (get_or c.args.writes.now c.loop-write.write-index d) c.loop-write.runs.items c.push.new.runs.items c.loop-write-test.true refl c.in_ok-push.ensures c.loop-write.invariant

pub returns : goal.returns
returns c = made_over c.args.writes.now c.loop-write.write-index c.loop-write.runs.items c.loop-write-test.false c.loop-write.invariant
