-- The credits of posted writes: PCI-to-PCI Bridge Architecture Specification 1.1, chapter 5 (from memory; buffer
-- management).
use Rattle.std.specs.Prelude.{◌≡◌, ℕ, ◌+◌}
use Rattle.list_facts.specs.Lists.{total}
use Rattle.history_model.specs.declared.item.Carried.{Carried}
use Rattle.history_model.specs.declared.item.Carried.TheVariants.{Post, Ask, Done, Room, Gone}
use Rattle.history_model.specs.Lanes.{Both}

-- counts posted writes
abbrev pub post_count : Carried → ℕ
post_count (Post op) = 1
post_count (Ask op slot) = 0
post_count (Done op slot outcome) = 0
post_count Room = 0
post_count (Gone slot) = 0

-- counts credits
abbrev pub room_count : Carried → ℕ
room_count (Post op) = 0
room_count (Ask op slot) = 0
room_count (Done op slot outcome) = 0
room_count Room = 1
room_count (Gone slot) = 0

-- each posted write that is owed is in flight or stands, or its credit is on its way back
pub record Credits (x : Both) : Type 0 where
  pub owed : x.here.owed ≡ total post_count x.here.flight + total post_count x.here.standing + total room_count x.back.flight
