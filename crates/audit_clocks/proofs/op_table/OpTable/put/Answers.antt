use Rattle.std.proofs.Common.{subst}
use Rattle.audit_clocks.specs.Tables.{Puts}
use Rattle.audit_clocks.proofs.TableLemmas.{op_puts}
use Rattle.audit_clocks.proofs.op_table.OpTable.put.Goals as goal

pub returns : goal.returns
returns g c = subst (λ es. Puts c.args.op c.args.value es c.insert.new.self.entries) c.self.view_is (op_puts c.args.op c.args.value c.self.inside.entries.entries c.insert.new.self.entries (λ q. c.in_ok-insert.ensures.updates.0 q))
