-- What the laws of slots, credits and depths state, and what other crates rest on besides.

-- each held slot has its item in one of five places, and each item its slot
pub use Rattle.law_lanes.proofs.SlotsRunLemmas.{Slots-run}
pub use Rattle.law_lanes.proofs.OneItemLemmas.{HasOneItem-each, GoneHeld-each}
-- a lane owes the posted writes on it and those whose credit is on its way
pub use Rattle.law_lanes.proofs.CreditsLemmas.{Credits-run}
-- the depths of a bridge bound what is on its lanes
pub use Rattle.law_lanes.proofs.DepthsLemmas.{Within-run, Within-each, Within-limits}
-- what stands before in a run is a run
pub use Rattle.law_lanes.proofs.PrefixLemmas.{Run-before}
-- what stands on a lane
pub use Rattle.law_lanes.proofs.StandingLemmas.{CanStand-run}
-- nothing is on a lane that nothing entered, and nothing enters a lane of no bridge
pub use Rattle.law_lanes.proofs.QuietLemmas.{Quiet-empty, run_no_bridge}
-- each held slot was latched on the bus where its lane begins
pub use Rattle.law_lanes.proofs.LatchedLemmas.{Latched-run}
-- no delayed request goes through in parts
pub use Rattle.law_lanes.proofs.PartLemmas.{delayed-not_parted}
-- posted items carry writes in memory, and the others any other operation
pub use Rattle.law_lanes.proofs.KindLemmas.{RightKind-run}
-- for whom a slot is held, waits at it
pub use Rattle.law_lanes.proofs.OwnersRunLemmas.{Owners-run}
-- an operation that is presented is one of the board's
pub use Rattle.law_lanes.proofs.PresentedLemmas.{op_there}
-- a completion is taken by the operation that it was made for
pub use Rattle.law_lanes.proofs.MatchedLemmas.{TakesItsOwn-run}
pub use Rattle.law_lanes.proofs.MatchedRunLemmas.{Matched-run}
-- a bridge can receive whatever is in flight to it
pub use Rattle.law_lanes.proofs.LawfulLemmas.{Lawful-run}
-- a well-formed board has different numbers, depths to eight, and single delayed requests
pub use Rattle.law_lanes.proofs.WellFormedLemmas.{WellFormed-numbers, WellFormed-depths, WellFormed-single}
-- facts on the definitions of this crate

-- who presents an operation is on the bus
pub use Rattle.law_lanes.proofs.LatchedLemmas.{wants-at}
-- a lane that claims a request begins on the bus
pub use Rattle.law_lanes.proofs.ClaimLemmas.{claim_starts}
-- who presents an operation for which a slot is held waits for it
pub use Rattle.law_lanes.proofs.OwnersLatchLemmas.{wants-waits}
-- slots under either rule of the bridge
pub use Rattle.law_lanes.proofs.SlotsRunLemmas.{Slots-kept, Slots-run_by}
-- a request that is taken in parts has more data phases left
pub use Rattle.law_lanes.proofs.PartLemmas.{PartLeft, answered_part}
-- a number weighs one for itself, and finds its slot
pub use Rattle.law_lanes.proofs.HeldLemmas.{hit-same}
pub use Rattle.law_lanes.proofs.OneItemLemmas.{Each-found_itself, ask_found}
-- the lowest free number is free
pub use Rattle.law_lanes.proofs.LowestFreeLemmas.{lowest_free-free}
-- which items have which effect as they arrive
pub use Rattle.law_lanes.proofs.EffectLemmas.{Fits, IsRoom, IsAskOf, IsLastOf, effect_fits}
