use Rattle.std.proofs.Common.{subst, [], ◌∷◌}
use Rattle.audit_clocks.specs.Tables.{dword}
use Rattle.untagged_check.specs.index.Kept.{Writes}
use Rattle.untagged_check.proofs.index.KeptLemmas.{put_back}
use Rattle.untagged_check.proofs.index.index.WriteIndex.put.Goals as goal

pub returns : goal.returns
returns c =
    subst (λ es. Writes c.args.write (dword c.args.word ∷ []) es c.put.new.self) c.self.view_is
    (put_back c.args.word c.args.write c.self.inside.words c.take-found.new.self c.put.new.self c.take-found.result c.authors_or_new.result c.in_ok-authors.authors
    c.take-found.ensures.found c.authors_or_new.ensures c.in_ok-authors.ensures c.take-found.ensures.others c.in_ok-put.ensures)
