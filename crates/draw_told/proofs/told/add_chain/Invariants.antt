use Rattle.std.proofs.Common.{take}
use Rattle.std.specs.List.{list_any}
use Rattle.pci_command.specs.declared.op_id.OpId.{OpId}
use Rattle.pci_command.specs.Same.{same_op}
use Rattle.draw_told.specs.Kept.{Louder}
use Rattle.draw_told.proofs.told.add_chain.Given as goal

-- the operations so far
abbrev pub invariant-loop-op : goal.invariant-loop-op
invariant-loop-op l = Louder l.initial.loud l.loud (λ (o : OpId). list_any (λ (p : OpId). same_op p o) (take l.op-index l.chain))
