use Rattle.std.proofs.Common.{subst}
use Rattle.board_writes.specs.Looks.{TellAlike}
use Rattle.board_writes.proofs.RaisingLemmas.{among_joined, staying_joined}
use Rattle.board_writes.proofs.polls.stays.raisers_among_all.Goals as goal

pub put_raisers-requires-clause-among : goal.put_raisers-requires-clause-among
put_raisers-requires-clause-among c = among_joined c.args.awaited c.args.writes.now c.args.raising.now c.runs-runs.result.now c.runs-among.result.now c.runs-runs.ensures.all c.runs-among.ensures.all c.requires.raising

pub returns : goal.returns
returns c =
    subst (TellAlike c.args.table.now c.args.poll c.put_raisers.new.found.items)
    (staying_joined c.args.awaited c.args.writes.now c.args.raising.now c.runs-runs.result.now c.runs-among.result.now c.runs-runs.ensures.all c.runs-among.ensures.all c.requires.raising c.args.table.now c.args.poll)
    c.in_ok-ended.ensures
