-- Which buses are known to be quiet, and where the next act is looked for.
use Rattle.std.specs.Prelude.{◌≡◌, ◌<◌, ◌≤◌, ℕ, Bool, true, List, Some, length, slice_get}
use Rattle.judge_next.specs.declared.quiet.Quiet.{Quiet}

-- all buses below this one are known to be quiet
abbrev pub AllBelow : List Bool → ℕ → Type 0
AllBelow flags from = (bus : ℕ) → bus < from → slice_get flags bus ≡ Some true

-- there is a flag for each of 256 buses, and all below that with which the look begins are known to be quiet
pub record AreFlags (quiet : Quiet) : Type 0 where
  pub all : length quiet.buses.items ≡ 256
  pub few : quiet.from ≤ 256
  pub below : AllBelow quiet.buses.items quiet.from
