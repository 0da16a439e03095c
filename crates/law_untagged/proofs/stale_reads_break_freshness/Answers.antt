use Rattle.law_untagged.proofs.StaleLemmas.{breaks_so, so_breaks, stale_exactly}
use Rattle.law_untagged.proofs.stale_reads_break_freshness.Goals as goal

pub returns : goal.returns
returns c = record {
  each = λ board h w r run. (breaks_so board h run w r, so_breaks board h run w r);
  all = λ board h run. stale_exactly board h run;
}
