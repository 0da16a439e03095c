use Rattle.std.proofs.Common.{take, sym}
use Rattle.plain_audit.proofs.TableLemmas.{told_by}
use Rattle.plain_audit.proofs.was_told.Goals as goal

pub returns-then-is_there : goal.returns-then-is_there
returns-then-is_there c =
    told_by c.args.board.now c.requires.valid c.args.write c.args.read c.args.events.now (take c.count_to_end-count.result c.args.events.now) c.after-places.result.write c.after-places.result.since c.is_told.result
    c.requires.run (sym c.if-is_write.ensures) (sym c.if-is_there.ensures) c.after-places.ensures.write c.after-places.ensures.places c.count_to_end-count.ensures.end c.is_told.ensures
