use Rattle.std.proofs.Common.{◌≡◌, ◌+◌, ◌*◌, false, drop}
use Rattle.plain_audit.specs.Places.{reaches_dword}
use Rattle.plain_audit.proofs.landings.reaches.Given as goal

-- one so far is, or one to come is, as one of all is
abbrev pub invariant-loop : goal.invariant-loop
invariant-loop l = (reaches_dword l.reached l.address l.next (drop l.index l.phases) ≡ reaches_dword false l.address l.at l.phases) × (l.next ≡ l.at + 4 * l.index)
