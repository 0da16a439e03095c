use Rattle.std.proofs.Common.{◌≡◌, ◌+◌, ◌*◌, drop}
use Rattle.history_model.specs.Words.{mask_in}
use Rattle.machine_steps.specs.Values.{value_merged}
use Rattle.plain_replay.proofs.words.value_merged.Given as goal

-- what the data phases to come make of the value is what all make of it
abbrev pub invariant-loop-phase : goal.invariant-loop-phase
invariant-loop-phase l =
    (value_merged l.fn.space l.address l.next l.merged (drop l.phase-index l.phases) ≡ value_merged l.fn.space l.address l.at l.value l.phases)
    × (l.next ≡ l.at + 4 * l.phase-index) × (l.mask ≡ mask_in l.fn.space l.address)
