use Rattle.law_bound.proofs.changes.ProgramLemmas.{turn_master, follows_left}
use Rattle.law_bound.proofs.changes.programs_go_on.Goals as goal

pub returns : goal.returns
returns c =
    record {
      own = turn_master;
      next = λ board h o op master outcome valid is_op is_master none. follows_left board valid h o op master is_op is_master none outcome;
    }
