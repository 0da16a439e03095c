-- What the laws of either rule state.

-- nothing is on the lanes of no bridge, and the depths of a bridge bound what is on its lanes
pub use Rattle.law_lanes.proofs.rules.QuietLemmas.{Quiet-run_by, Within-limits_by}
-- as long as parts go through, data phases are left, and no delayed request goes through in parts
pub use Rattle.law_lanes.proofs.rules.PartLemmas.{short_by, delayed-not_parted_by}
-- a delayed operation that a lane presents has the lane on its way
pub use Rattle.law_lanes.proofs.rules.WayLemmas.{asked_way}
