use Rattle.law_lanes.proofs.rules.PartLemmas.{short_by, delayed-not_parted_by}
use Rattle.law_lanes.proofs.rules.parts.Goals as goal

pub returns : goal.returns
returns c = record { some_left = short_by; delayed_are_whole = delayed-not_parted_by }
