use Rattle.std.proofs.Common.{◌≡◌, ◌<◌, length, get_or}
use Rattle.bus_targets.specs.Reads.{KnowsProgram}
use Rattle.bus_targets.proofs.ReadLemmas.{programs_more}
use Rattle.bus_targets.proofs.reads.addresses_read.Goals as goal

pub loop-master-preserved : goal.loop-master-preserved
loop-master-preserved c =
    let masters = c.args.board.now.masters in
    let i = c.loop-master.master-index in
    let new = c.in_ok-push_reads.ensures in
    let within : i < length masters = rw c.as_slice-master-items.ensures at c.loop-master-test.true in
    let item : c.master-item.result ≡ get_or masters i c.master-item.result = rw c.as_slice-master-items.ensures at c.master-item.is in
    let here : KnowsProgram c.args.target.now c.args.space c.push_reads.new.addresses.items c.master-item.result = rw c.as_slice.ensures at new.reads in
    programs_more c.args.target.now c.args.space c.loop-master.addresses.items c.push_reads.new.addresses.items masters i c.master-item.result within item new.stays c.loop-master.invariant here
