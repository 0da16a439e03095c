use Rattle.law_audit.proofs.OrderLemmas.{earlier_known}
use Rattle.law_audit.proofs.earlier_is_known.Goals as goal

pub returns : goal.returns
returns c = λ board h w v r valid run w_writes v_writes masters earlier is. earlier_known board valid h w v r run w_writes v_writes masters earlier is
