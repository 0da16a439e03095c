use Rattle.std.proofs.Common.{drop}
use Rattle.audit_landings.proofs.TellLemmas.{Telling}
use Rattle.audit_landings.proofs.told.tell_all.Given as goal

-- what those so far tell, and which of them wait
abbrev pub invariant-loop-op : goal.invariant-loop-op
invariant-loop-op l = Telling l.whole l.starts l.writes (drop l.op-index l.writes) l.initial.numbers l.numbers l.initial.waiting.items l.waiting.items
