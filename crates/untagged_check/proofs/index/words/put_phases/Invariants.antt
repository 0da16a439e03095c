use Rattle.std.proofs.Common.{◌≡◌, ◌+◌, ◌*◌, drop}
use Rattle.board_model.specs.Ways.{dwords_from}
use Rattle.untagged_check.proofs.index.WalkLemmas.{Behind}
use Rattle.untagged_check.proofs.index.words.put_phases.Given as goal

-- each dword so far has the write
abbrev pub invariant-loop : goal.invariant-loop
invariant-loop l =
    (l.next ≡ l.first.address + 4 * l.index)
    × Behind l.write (dwords_from l.first.target l.first.space l.first.address l.phases) (dwords_from l.first.target l.first.space l.next (drop l.index l.phases)) l.initial.writes l.writes
