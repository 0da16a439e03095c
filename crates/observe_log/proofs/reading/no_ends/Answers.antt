use Rattle.std.proofs.lemmas.List.{get_or-replicate}
use Rattle.observe_log.proofs.reading.no_ends.Goals as goal

pub returns : goal.returns
returns c = record { ended = λ bus within. get_or-replicate 256 bus 0 0 within }
