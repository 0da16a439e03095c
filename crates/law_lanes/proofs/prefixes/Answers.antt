use Rattle.law_lanes.proofs.PrefixLemmas.{Run-before}
use Rattle.law_lanes.proofs.prefixes.Goals as goal

pub returns : goal.returns
returns c = Run-before
