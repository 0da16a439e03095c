-- A lane of a bridge: a queue of what goes one way through it (PCI-to-PCI Bridge Architecture
-- Specification 1.1, chapter 5, Buffer Management; from memory). Its near end sends, on one bus, and its far end
-- receives, on the other. All lists are in the order of sending.
use Rattle.std.specs.Prelude.{◌≡◌, ℕ, ◌+◌, ◌-◌, List, [], ◌++◌, length, take, drop}
use Rattle.lane_items.specs.declared.item.Item.{Item}

-- the items in hand at the far end: those that it had when the phase began, less those got of them
abbrev pub in_hand : List Item → List Item → List Item
in_hand had got = drop (length got) had

-- of what the near end sent in the phase, the items that it does not keep: the last `kept` ones are
-- kept
abbrev pub passed_on : List Item → ℕ → List Item
passed_on sent kept = take (length sent - kept) sent

-- of what the near end sent in the phase, the items that it keeps
abbrev pub kept_back : List Item → ℕ → List Item
kept_back sent kept = drop (length sent - kept) sent

-- what the far end got is the beginning of what it had in hand, followed by what the near end passed
-- on
abbrev pub GotInOrder : List Item → List Item → List Item → ℕ → Type 0
GotInOrder had got sent kept = (rest : List Item) × (got ++ rest ≡ had ++ passed_on sent kept)

-- how many items are left on the lane: those that the far end had or the near end sent, and the far
-- end did not get
abbrev pub left_count : List Item → List Item → List Item → ℕ
left_count had got sent = length had + length sent - length got

-- the lane is settled, and its far end then has `hand` in hand
pub record Crosses (had got sent : List Item) (kept : ℕ) (hand : List Item) : Type 0 where
  -- in order, all that it had or was sent to it, and that it did not get
  pub in_order : got ++ hand ≡ had ++ sent
  -- at the end of it all that the near end kept
  pub kept_crossed : (front : List Item) × (hand ≡ front ++ kept_back sent kept)

-- a phase begins: nothing is sent, got or kept yet
pub record IsEmptied (sent got : List Item) (kept : ℕ) : Type 0 where
  pub none_sent : sent ≡ []
  pub none_got : got ≡ []
  pub none_kept : kept ≡ 0

-- whatever was the other end of the bridge still is
pub record KeepsPairs {End : Type 0} (paired : End → End → Type 0) (old new : End) : Type 0 where
  pub as_first : (other : End) → paired old other → paired new other
  pub as_second : (other : End) → paired other old → paired other new
