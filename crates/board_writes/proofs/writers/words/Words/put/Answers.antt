use Rattle.std.proofs.Common.{cond, subst, [], ◌∷◌}
use Rattle.audit_clocks.specs.Tables.{same_word}
use Rattle.board_writes.specs.Writes.{Adds}
use Rattle.board_writes.proofs.WriteLemmas.{put_back}
use Rattle.board_writes.proofs.writers.words.Words.put.Goals as goal

pub returns : goal.returns
returns c =
    subst (λ es. Adds (λ q. cond (same_word c.args.word q) (c.args.write ∷ []) []) es c.put.new.self) c.self.view_is
    (put_back c.args.word c.args.write c.self.inside.words c.take-found.new.self c.put.new.self c.take-found.result c.writes_or_none.result c.in_ok-writes.writes
    c.take-found.ensures.found c.writes_or_none.ensures c.in_ok-writes.ensures c.take-found.ensures.others c.in_ok-put.ensures)
