use Rattle.board_model.proofs.Laws.{WellFormed-parts, WellFormed-from}
use Rattle.board_model.proofs.form_laws.well_formed_is_named.Goals as goal

pub returns : goal.returns
returns c = record { named = WellFormed-parts; tested = WellFormed-from }
