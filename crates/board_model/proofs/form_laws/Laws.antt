-- What the laws of boards state, and what other crates rest on besides.

-- what a lane takes is not claimed by the other lane of its bridge, and a lane that claims starts there
pub use Rattle.board_model.proofs.form_laws.TurnLemmas.{no_turn, starts_here}
-- at most one of all that decode a request claims it
pub use Rattle.board_model.proofs.form_laws.ClaimantLemmas.{OneClaimant-valid}
-- a valid board is a tree
pub use Rattle.board_model.proofs.form_laws.ValidLemmas.{IsTree-valid}
-- a way ends, and each lane of it has a lower rank than the one before
pub use Rattle.board_model.proofs.form_laws.EndLemmas.{WayEnds-tree, rank-falls}
-- facts on the definitions of this crate

-- a lane that claims goes up from its bus, or down into a child
pub use Rattle.board_model.proofs.form_laws.StepLemmas.{steps, Up, Down}
-- the bridge that is found by a number has it
pub use Rattle.board_model.proofs.form_laws.WayLemmas.{number_of}
-- a valid board has at most 256 masters
pub use Rattle.board_model.proofs.FewLemmas.{few_masters}
