use Rattle.board_model.proofs.form_laws.ClaimantLemmas.{OneClaimant-valid}
use Rattle.board_model.proofs.form_laws.one_claimant.Goals as goal

pub returns : goal.returns
returns c = λ board bus request valid. OneClaimant-valid board valid bus request
