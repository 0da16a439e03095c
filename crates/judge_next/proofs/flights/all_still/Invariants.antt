use Rattle.std.proofs.Common.{◌≡◌, ◌<◌, ℕ, Some, length, slice_get}
use Rattle.judge_next.specs.Flights.{is_still}
use Rattle.judge_next.proofs.flights.all_still.Given as goal

-- those of the buses so far
abbrev pub invariant-loop-bus : goal.invariant-loop-bus
invariant-loop-bus l = (length l.still.items ≡ l.bus) × ((bus : ℕ) → bus < l.bus → slice_get l.still.items bus ≡ Some (is_still l.board l.kept bus))
