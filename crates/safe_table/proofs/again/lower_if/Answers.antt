use Rattle.std.proofs.Common.{Option, Contains, IfSome, subst}
use Rattle.pci_command.specs.declared.op_id.OpId.{OpId}
use Rattle.safe_table.proofs.BoundLemmas.{poll_bound}
use Rattle.safe_table.proofs.again.lower_if.Goals as goal

pub lower_poll-requires-clause-first : goal.lower_poll-requires-clause-first
lower_poll-requires-clause-first c = c.requires.are.listed.first c.in-Some.op (subst (λ (found : Option OpId). IfSome found (λ op. Contains c.args.ops.now op)) c.in-Some.is c.requires.among)

pub returns-in_ok-here-in-Some-clause-bounds : goal.returns-in_ok-here-in-Some-clause-bounds
returns-in_ok-here-in-Some-clause-bounds c =
    poll_bound c.args.tree.now c.args.ops.now c.in-Some.op c.args.table.now c.lower_poll.new.table c.in_ok-here-in-Some.here (subst (λ (found : Option OpId). IfSome found (λ op. Contains c.args.ops.now op)) c.in-Some.is c.requires.among) c.requires.are.listed c.requires.bounds
    c.in_ok-here-in-Some.ensures.lowers
