use Rattle.std.proofs.Common.{◌≡◌, drop}
use Rattle.history_model.specs.Next.{first_in}
use Rattle.judge_next.specs.Now.{master_now}
use Rattle.judge_next.proofs.acts.act_of_masters.Given as goal

-- the first of all is the first of those to come
abbrev pub invariant-loop-master : goal.invariant-loop-master
invariant-loop-master l = first_in (master_now l.board l.kept l.bus) (drop l.master-index l.masters) ≡ first_in (master_now l.board l.kept l.bus) l.masters
