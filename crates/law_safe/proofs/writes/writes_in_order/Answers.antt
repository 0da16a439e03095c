use Rattle.law_safe.proofs.writes.InOrderLemmas.{told_first, told_last}
use Rattle.law_safe.proofs.writes.writes_in_order.Goals as goal

pub returns-clause-first : goal.returns-clause-first
returns-clause-first c = λ board h w x word valid run told other writes named. told_first board h w x word valid run told other writes named

pub returns-clause-last : goal.returns-clause-last
returns-clause-last c = λ board h w x word valid run told other writes named posted. told_last board h w x word valid run told other writes named posted
