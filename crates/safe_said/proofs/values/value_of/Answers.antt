use Rattle.std.proofs.Common.{◌≡◌, sym, ap, subst, ◌∙◌}
use Rattle.std.specs.List.{AllByRecursion}
use Rattle.audit_clocks.specs.Tables.{dword}
use Rattle.board_writes.specs.Writes.{IsWordWrite}
use Rattle.board_writes.specs.Stretches.{joined}
use Rattle.safe_said.proofs.values.value_of.Goals as goal

pub left_by-requires : goal.left_by-requires
left_by-requires c =
    let all : joined c.as_slice.result.now ≡ c.args.writes.now = ap joined c.as_slice.ensures.value ∙ c.in_ok-runs.ensures.all in
    rw c.as_slice-2.ensures.value (c.in_ok-list.ensures.each (dword c.args.word) (subst (AllByRecursion (IsWordWrite c.args.board.now (dword c.args.word))) (sym all) c.requires.writes))
