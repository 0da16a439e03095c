use Rattle.board_model.proofs.form_laws.TurnLemmas.{no_turn, starts_here}
use Rattle.board_model.proofs.form_laws.claims_never_turn_back.Goals as goal

pub returns : goal.returns
returns c = record { never_back = no_turn; starts = starts_here }
