use Rattle.traffic_generator.proofs.ValidLemmas.{IsValid-generated, bound_is}
use Rattle.traffic_generator.proofs.laws.generated_boards_are_valid.Goals as goal

pub returns : goal.returns
returns c = record { valid = IsValid-generated; bound = bound_is }
