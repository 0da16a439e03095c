use Rattle.board_model.proofs.form_laws.Laws.{few_masters}
use Rattle.law_audit.proofs.few_masters.Goals as goal

pub returns : goal.returns
returns c = λ board valid. few_masters board valid
