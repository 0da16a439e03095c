use Rattle.std.proofs.Common.{◌≡◌, ◌+◌, ◌*◌}
use Rattle.audit_clocks.specs.Tables.{Lands}
use Rattle.audit_landings.specs.Hits.{hits}
use Rattle.audit_landings.proofs.landed.record_phases.Given as goal

-- what landed so far
abbrev pub invariant-loop-phase : goal.invariant-loop-phase
invariant-loop-phase l =
    (Lands l.initial.landed l.landed (λ word. hits word l.op l.first.target l.first.space l.first.address l.phase-index))
    × (l.address ≡ l.first.address + 4 * l.phase-index)
