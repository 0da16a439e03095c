use Rattle.law_audit.proofs.ChainLemmas.{chain_tells}
use Rattle.law_audit.proofs.chains_tell.Goals as goal

pub returns : goal.returns
returns c = λ board h w r chain valid run is. chain_tells board h w r chain valid run is
