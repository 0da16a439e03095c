use Rattle.std.proofs.Common.{◌≡◌, ◌≤◌, take}
use Rattle.history_model.specs.Knowledge.{up_to_end}
use Rattle.history_model.specs.Runs.{history_of}
use Rattle.plain_audit.proofs.readings.count_to_end.Given as goal

-- the last such end so far
abbrev pub invariant-loop-index : goal.invariant-loop-index
invariant-loop-index l = (l.count ≤ l.index) × (history_of (take l.count l.events) ≡ up_to_end l.op (history_of (take l.index l.events)))
