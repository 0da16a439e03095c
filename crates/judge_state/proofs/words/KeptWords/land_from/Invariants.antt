use Rattle.std.proofs.Common.{◌≡◌, ◌+◌, ◌*◌, drop}
use Rattle.judge_state.specs.Words.{landed_in}
use Rattle.judge_state.proofs.words.KeptWords.land_from.Given as goal

-- what the data phases to come make of the values is what all make of those at first
abbrev pub invariant-loop-phase : goal.invariant-loop-phase
invariant-loop-phase l =
    (landed_in l.fn.self.places l.fn.target l.fn.space l.next (drop l.phase-index l.phases) l.self.values ≡ landed_in l.fn.self.places l.fn.target l.fn.space l.at l.phases l.fn.self.values)
    × (l.next ≡ l.at + 4 * l.phase-index) × (l.self.places ≡ l.fn.self.places)
