use Rattle.std.proofs.Common.{subst}
use Rattle.audit_clocks.specs.Tables.{PutsWord}
use Rattle.audit_clocks.proofs.TableLemmas.{word_puts}
use Rattle.audit_clocks.proofs.word_table.WordTable.put.Goals as goal

pub returns : goal.returns
returns g c = subst (λ es. PutsWord c.args.word c.args.value es c.insert.new.self.entries) c.self.view_is (word_puts c.args.word c.args.value c.self.inside.entries.entries c.insert.new.self.entries (λ q. c.in_ok-insert.ensures.updates.0 q))
