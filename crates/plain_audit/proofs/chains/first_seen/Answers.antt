use Rattle.std.proofs.Common.{take}
use Rattle.history_model.specs.Runs.{history_of}
use Rattle.plain_audit.proofs.CodeLemmas.{seen_first}
use Rattle.plain_audit.proofs.chains.first_seen.Goals as goal

pub returns : goal.returns
returns c =
    seen_first c.args.board.now c.args.places.now.write (history_of c.args.events.now) (history_of (take c.count_to_end-count.result c.args.events.now)) c.args.places.now.since c.args.op c.last_shown.result
    c.requires c.count_to_end-count.ensures.end c.last_shown.ensures
