-- Where those of each bus stand in a list: the first place of a bus, and behind each place the next one of its bus.
use Rattle.std.specs.Prelude.{◌≡◌, ◌≢◌, ℕ, ◌+◌, ◌<◌, ◌≤◌, List, length, slice_index}
use Rattle.board_tree.specs.declared.chains.Chains.{Chains}

-- the next place of a bus from one on: what stands between is of other buses, and it is of the bus, unless it is behind all
pub record IsNext (buses : List ℕ) (bus from to : ℕ) : Type 0 where
  pub behind : from ≤ to
  pub there : to < length buses → slice_index buses to ≡ bus
  pub between : (k : ℕ) → from ≤ k → k < to → k < length buses → slice_index buses k ≢ bus

-- the places from one on are chained, each by its bus, of at most 256
pub record AreChainedFrom (low : ℕ) (buses : List ℕ) (chains : Chains) : Type 0 where
  pub few : length buses ≤ 256
  -- the first of them of each bus
  pub first : (bus : ℕ) → bus < 256 → IsNext buses bus low (slice_index chains.first bus)
  -- behind each of them the next of its bus
  pub next : (place : ℕ) → low ≤ place → place < length buses → IsNext buses (slice_index buses place) (place + 1) (slice_index chains.next place)

-- all places are chained
abbrev pub AreChained : List ℕ → Chains → Type 0
AreChained buses chains = AreChainedFrom 0 buses chains
