use Rattle.board_model.specs.declared.op.Op.{Op}
use Rattle.board_model.specs.declared.op.Op.TheVariants.{CfgRead}
use Rattle.safe_model.specs.Ops.{ops_from}
use Rattle.std.proofs.Common.{◌+◌, drop}
use Rattle.audit_clocks.specs.Tables.{dword}
use Rattle.board_writes.specs.Writes.{kept_of, kept_by}
use Rattle.board_writes.proofs.WriteLemmas.{some_more, op_parts}
use Rattle.board_writes.proofs.writers.list.list_program.Goals as goal

pub loop-place-preserved : goal.loop-place-preserved
loop-place-preserved c =
    let op : Op = CfgRead 0 0 0 in
    some_more (λ q. kept_by c.args.board.now (dword q) (ops_from c.args.master 0 c.args.ops.now)) (λ q. kept_by c.args.board.now (dword q) (ops_from c.args.master c.loop-place.place (drop c.loop-place.place c.args.ops.now)))
    (λ q. kept_of c.args.board.now (dword q) (record { master = c.args.master; index = c.loop-place.place; attempt = 0 }))
    (λ q. kept_by c.args.board.now (dword q) (ops_from c.args.master (c.loop-place.place + 1) (drop (c.loop-place.place + 1) c.args.ops.now))) c.args.writers.now c.loop-place.writers c.put_write.new.writers
    (λ q. op_parts c.args.board.now c.args.master c.args.ops.now c.loop-place.place op q c.loop-place-test.true) c.loop-place.invariant c.in_ok-put_write.ensures
