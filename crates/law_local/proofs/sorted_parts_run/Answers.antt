use Rattle.law_local.specs.Stamps.{events_of}
use Rattle.law_local.proofs.ApartLemmas.{IsFit-valid}
use Rattle.law_local.proofs.WovenLemmas.{woven_run}
use Rattle.law_local.proofs.SortLemmas.{merged_woven}
use Rattle.law_local.proofs.sorted_parts_run.Goals as goal

pub returns : goal.returns
returns c = λ board sent part all valid between parts merged.
    woven_run board sent (IsFit-valid board valid) between (events_of all) (merged_woven board (IsFit-valid board valid) sent part all parts merged)
