use Rattle.std.proofs.Common.{◌≡◌, ◌++◌, map, take}
use Rattle.judge_adverse.specs.declared.ring.Initiator.TheVariants.{Master}
use Rattle.judge_adverse.proofs.ring.list_masters.Given as goal

-- the masters so far are listed
abbrev pub invariant-loop-master : goal.invariant-loop-master
invariant-loop-master l = l.all.items ≡ l.initial.all.items ++ map (Master l.bus) (take l.master-index l.masters)
