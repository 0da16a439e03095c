use Rattle.law_fresh.proofs.reads.GotLemmas.{returned_got, always_got}
use Rattle.law_fresh.proofs.reads.reads_return.Goals as goal

pub returns : goal.returns
returns c = λ board h valid run.
    record {
      returned = λ r reading is. returned_got board h r reading valid run is;
      always_read = λ r reads_it some ended. always_got board h r valid run reads_it some ended;
    }
