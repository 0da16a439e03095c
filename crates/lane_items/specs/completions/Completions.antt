-- The delayed completions that stand in a bridge until their master repeats its request: PCI Local
-- Bus Specification 2.2, sections 3.3.3.3.1 and 3.3.3.3.5 (from memory).
use Rattle.std.specs.Prelude.{◌≡◌, ◌≢◌, ℕ, ◌≤◌, ◌==◌, Option, None, IsSome, List, [], ◌∷◌, length, if◌then◌else◌}
use Rattle.std.specs.List.{find}
use Rattle.lane_items.specs.declared.completions.done_table.Done.{Done}

-- the completions that stand, in the order in which they came, and how many may stand at once
pub record Completions : Type 0 where
  pub depth : ℕ
  pub dones : List Done

-- the completion of the request that holds this slot
abbrev pub done_at : ℕ → List Done → Option Done
done_at slot dones = find (λ done. done.slot == slot) dones

-- a completion of this slot stands
abbrev pub IsStanding : ℕ → List Done → Type 0
IsStanding slot dones = IsSome (done_at slot dones)

-- for every other slot the same completion stands after a call as before, or none as before
abbrev pub KeepsOthers : ℕ → List Done → List Done → Type 0
KeepsOthers slot old new = (other : ℕ) → other ≢ slot → done_at other new ≡ done_at other old

-- the completions in their order, without that of this slot
abbrev pub without : ℕ → List Done → List Done
without slot [] = []
without slot (done ∷ later) = if done.slot == slot then later else done ∷ without slot later

-- no two completions are of one slot
abbrev pub IsOneForEachSlot : List Done → Type 0
IsOneForEachSlot [] = Unit {0}
IsOneForEachSlot (done ∷ later) = (done_at done.slot later ≡ None) × IsOneForEachSlot later

-- a depth is from 1 to 8, no more completions stand than it allows, and no two of one slot
pub record IsTable (table : Completions) : Type 0 where
  pub at_least_one : 1 ≤ table.depth
  pub at_most_eight : table.depth ≤ 8
  pub within : length table.dones ≤ table.depth
  pub one_for_each_slot : IsOneForEachSlot table.dones
