use Rattle.std.proofs.Common.{subst}
use Rattle.audit_clocks.specs.Tables.{TakesWord}
use Rattle.audit_clocks.proofs.TableLemmas.{word_takes}
use Rattle.audit_clocks.proofs.word_table.WordTable.take.Goals as goal

pub returns-clause-others : goal.returns-clause-others
returns-clause-others g c = subst (λ es. TakesWord c.args.word es c.remove.new.self.entries) c.self.view_is (word_takes c.args.word c.self.inside.entries.entries c.remove.new.self.entries (λ q. c.remove.ensures.updates.0 q))
