use Rattle.std.proofs.Common.{◌≡◌, replicate, []}
use Rattle.audit_clocks.proofs.known.Known.new.Given as goal

abbrev pub invariant-loop-author : goal.invariant-loop-author
invariant-loop-author l = l.rows.items ≡ replicate l._author []
