-- The delayed requests that came over a bridge and stand until its other bus answers them: PCI
-- Local Bus Specification 2.2, sections 3.3.3.3.1 and 3.3.3.3.5 (from memory).
use Rattle.std.specs.Prelude.{◌≡◌, ℕ, ◌<◌, ◌≤◌, Option, List, length, slice_get}
use Rattle.std.specs.Option.{option_map}
use Rattle.pci_command.specs.declared.request.Request.{Request}
use Rattle.lane_items.specs.declared.requests.ask_table.Ask.{Ask}

-- the requests that stand, the oldest first, and how many may stand at once
pub record Asks : Type 0 where
  pub depth : ℕ
  pub asks : List Ask

-- the request at this place, from 0
abbrev pub request_at : List Ask → ℕ → Option Request
request_at asks place = option_map (λ ask. ask.request) (slice_get asks place)

-- an older one that stands has the same request as the one at this place
abbrev pub HasOlderEqual : List Ask → ℕ → Type 0
HasOlderEqual asks place =
    (older : ℕ) × (older < place) × (request_at asks older ≡ request_at asks place)

-- a depth is from 1 to 8, and no more requests stand than it allows
pub record IsAskTable (table : Asks) : Type 0 where
  pub at_least_one : 1 ≤ table.depth
  pub at_most_eight : table.depth ≤ 8
  pub within : length table.asks ≤ table.depth
