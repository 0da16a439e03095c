use Rattle.std.proofs.Common.{◌≡◌, fold, take}
use Rattle.board_model.specs.device.Registers.{merge_of}
use Rattle.history_model.specs.Words.{opens_as}
use Rattle.audit_clocks.specs.Tables.{dword}
use Rattle.safe_said.proofs.values.left_by.Given as goal

-- what the writes so far leave
abbrev pub invariant-loop-write : goal.invariant-loop-write
invariant-loop-write l = l.value ≡ fold (λ v write. merge_of v write.phase l.mask) (opens_as l.fn.board (dword l.fn.word)) (take l.write-index l.writes)
