use Rattle.std.proofs.Common.{arith}
use Rattle.board_model.specs.Ways.{dwords_from}
use Rattle.pci_command.specs.declared.phases.Phase.{Phase}
use Rattle.untagged_check.proofs.index.WalkLemmas.{phase_more}
use Rattle.untagged_check.proofs.index.words.put_phases.Goals as goal

pub loop-preserved : goal.loop-preserved
loop-preserved c =
    let p : Phase = record { value = 0; enables = 0 } in (
      omega (arith, c.loop.invariant.0),
      phase_more c.args.write c.args.first.target c.args.first.space (dwords_from c.args.first.target c.args.first.space c.args.first.address c.args.phases.now) c.args.phases.now c.loop.next c.loop.index p
          c.args.writes.now c.loop.writes c.put.new.self c.loop-test.true c.loop.invariant.1 c.in_ok-put.ensures,
    )
