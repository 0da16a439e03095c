-- What the law of stages states, and what other crates rest on besides.

-- what is left of an operation and its stages make up one number
pub use Rattle.law_bound.proofs.stages.CountLemmas.{delayed_sum}
-- facts on the definitions of this crate

-- the stage of a lane that the operation passed, and of one where no slot is held for it
pub use Rattle.law_bound.proofs.stages.CountLemmas.{passed_stage, stage_none}
-- the slots of other operations have other numbers
pub use Rattle.law_bound.proofs.stages.OwnLemmas.{others_of}
-- the stage, by where the item of the slot is
pub use Rattle.law_bound.proofs.stages.StageLemmas.{stage_ask_flies, stage_ask_stands, stage_done_flies, stage_done_stands, stage_gone_flies}
-- no move of another operation changes a stage: as it is latched, as its request ends, as its completion is taken
pub use Rattle.law_bound.proofs.stages.SameLemmas.{Same, Others, moved_same, latch_here, latch_back, ends_here, ends_back, taken_here, taken_back}
-- and as its item arrives: one that stands, one that is dropped, one that frees a slot
pub use Rattle.law_bound.proofs.stages.SameLemmas.{ask_here, ask_back, done_here, done_back, drop_here, drop_back, frees_here, frees_back}
