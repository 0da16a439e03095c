use Rattle.std.proofs.Common.{cond, subst, [], ◌∷◌}
use Rattle.audit_clocks.specs.Tables.{same_word, Lands}
use Rattle.audit_clocks.proofs.TableLemmas.{lands_back}
use Rattle.audit_clocks.proofs.landings.Landings.land.Goals as goal

pub returns : goal.returns
returns c =
    subst (λ es. Lands es c.insert.new.self.entries (λ q. cond (same_word c.args.word q) (c.args.op ∷ []) [])) c.self.view_is
    (lands_back c.args.word c.args.op c.self.inside.words.entries c.remove-found.new.self.entries c.insert.new.self.entries c.remove-found.result c.landed_or_new.result c.in_ok-landed.landed
    c.remove-found.ensures.value c.landed_or_new.ensures c.in_ok-landed.ensures (λ q. c.remove-found.ensures.updates.0 q) (λ q. c.in_ok-insert.ensures.updates.0 q))
